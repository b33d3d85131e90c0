-- The loop over the WAIT DATA lines that follow, one law for each way on. Assumes nothing.
use Rattle.std.proofs.Common.{◌≡◌, ℕ, ◌+◌, ◌-◌, ◌*◌, ◌<◌, ◌≤◌, List, [], ◌∷◌, length, get_or, take, drop, min, sym, refl, ap, ◌∙◌, subst, add-one, arith, length-drop, drop_of_length-le, length-take, drop-cons}
use lib.Seq.{slice}
use Rattle.std.proofs.lemmas.List.{drop_min, take_min, drop-take}
use Rattle.language.specs.declared.Cell.{Cell}
use Rattle.language.specs.declared.Cell.TheVariants.{Nothing, Send, Loop, End, WaitTime, WaitData, WaitByte, WaitClock, WaitSignal, Rts, Log, Fchange, Pause, Resume, Nop, Unknown}
use Rattle.language.specs.Cell.{decoded}
use Rattle.language.specs.declared.Span.{Span}
use Rattle.statement.specs.declared.joining.Joined.{Joined}
use Rattle.statement.specs.Joining.{more, awaited_bytes, neighbours, their_bytes}
use Rattle.statement.specs.Inside.Joined.{joined_of}

-- after another cell nothing is counted
other : (c : Cell) → ((s : Span) → c ≡ WaitData s → ⊥) → (x : ℕ) → more c x 0 ≡ 0
other Nothing h x = refl
other (Send s) h x = refl
other (Loop n) h x = refl
other End h x = refl
other (WaitTime n) h x = refl
other (WaitData s) h x = absurd (h s refl)
other (WaitByte n) h x = refl
other (WaitClock k) h x = refl
other (WaitSignal l) h x = refl
other (Rts on) h x = refl
other (Log s) h x = refl
other Fchange h x = refl
other Pause h x = refl
other Resume h x = refl
other Nop h x = refl
other Unknown h x = refl

-- the cells from one place up to another, as the code lends them
pub part_is : (ws : List ℕ) (from end f e : ℕ) → e ≡ min end (length ws) → f ≡ min from e → take (e - f) (drop f ws) ≡ slice from end ws
part_is ws from end f e last first =
    let parts : f + (e - f) ≡ e = omega arith in
    let most : take e ws ≡ take end ws = rw last (take_min end ws) in
    let least : drop f (take e ws) ≡ drop from (take e ws) = ap (λ (k : ℕ). drop k (take e ws)) (first ∙ ap (min from) (sym long)) ∙ drop_min from (take e ws) in
    sym (drop-take f (e - f) ws) ∙ rw parts (least ∙ ap (drop from) most)
  where
    long : length (take e ws) ≡ e
    long = omega (arith, length-take e ws)

-- n cells with `bytes` bytes are passed: the words after them decide the rest
pub record Joining (ws : List ℕ) (bytes n i : ℕ) : Type 0 where
  pub place : i ≡ n
  pub few : n ≤ 512
  pub low : bytes ≤ n * 65535
  pub cells : neighbours ws ≡ n + neighbours (drop i ws)
  pub data_bytes : their_bytes ws ≡ bytes + their_bytes (drop i ws)

module _ {ws : List ℕ} {bytes n i : ℕ} (w : Joining ws bytes n i) where
  none : neighbours (drop i ws) ≡ 0 → their_bytes (drop i ws) ≡ 0 → {r : Joined} → (r.cells ≡ n) × (r.bytes ≡ bytes) → r ≡ joined_of ws
  none a b {r} e = made (e.0 ∙ omega (arith, w.cells, a)) (e.1 ∙ omega (arith, w.data_bytes, b))
    where
      made : {k b' c d : ℕ} → k ≡ c → b' ≡ d → ◌≡◌ {A = Joined} (record { cells = k; bytes = b' }) (record { cells = c; bytes = d })
      made p q = cc

  -- no word is left
  pub join_past : length ws ≤ i → {r : Joined} → (r.cells ≡ n) × (r.bytes ≡ bytes) → r ≡ joined_of ws
  unfolding neighbours their_bytes
  join_past h =
      let s : drop i ws ≡ [] = drop_of_length-le ws h in
      none (ap neighbours s) (ap their_bytes s)

  module _ (inside : i < length ws) where
    here : drop i ws ≡ get_or ws i 0 ∷ drop (i + 1) ws
    here = drop-cons ws i 0 inside ∙ ap (λ (k : ℕ). get_or ws i 0 ∷ drop k ws) (sym (add-one i))

    first : neighbours (drop i ws) ≡ more (decoded (get_or ws i 0)) (neighbours (drop (i + 1) ws) + 1) 0
    unfolding neighbours
    first = ap neighbours here

    first_bytes : their_bytes (drop i ws) ≡ more (decoded (get_or ws i 0)) (awaited_bytes (decoded (get_or ws i 0)) + their_bytes (drop (i + 1) ws)) 0
    unfolding their_bytes
    first_bytes = ap their_bytes here

    pub join_other : {c : Cell} → c ≡ decoded (get_or ws i 0) → ((s : Span) → c ≡ WaitData s → ⊥) → {r : Joined} → (r.cells ≡ n) × (r.bytes ≡ bytes) → r ≡ joined_of ws
    join_other {c} e o =
        let t : (x : ℕ) → more (decoded (get_or ws i 0)) x 0 ≡ 0 = subst (λ (d : Cell). (x : ℕ) → more d x 0 ≡ 0) e (other c o) in
        none (first ∙ t _) (first_bytes ∙ t _)

    pub join_more : {c : Cell} {s : Span} → c ≡ decoded (get_or ws i 0) → c ≡ WaitData s → s.count < 65536 → length ws ≤ 512
        → Joining ws (bytes + s.count) (n + 1) (i + 1)
    join_more {s = s} e d small short =
        let g : decoded (get_or ws i 0) ≡ WaitData s = sym e ∙ d in
        let a : neighbours (drop i ws) ≡ neighbours (drop (i + 1) ws) + 1 = first ∙ ap (λ (c : Cell). more c (neighbours (drop (i + 1) ws) + 1) 0) g in
        let b : their_bytes (drop i ws) ≡ s.count + their_bytes (drop (i + 1) ws) =
        first_bytes ∙ ap (λ (c : Cell). more c (awaited_bytes c + their_bytes (drop (i + 1) ws)) 0) g in
        record {
          place = omega (arith, w.place);
          few = omega (arith, w.place);
          low = omega (arith, w.low);
          cells = omega (arith, w.cells, a);
          data_bytes = omega (arith, w.data_bytes, b);
        }

-- ---- no more cells follow than there are

at_most : (c : Cell) (x : ℕ) → more c x 0 ≤ x
at_most Nothing x = omega arith
at_most (Send s) x = omega arith
at_most (Loop n) x = omega arith
at_most End x = omega arith
at_most (WaitTime n) x = omega arith
at_most (WaitData s) x = omega arith
at_most (WaitByte n) x = omega arith
at_most (WaitClock k) x = omega arith
at_most (WaitSignal l) x = omega arith
at_most (Rts on) x = omega arith
at_most (Log s) x = omega arith
at_most Fchange x = omega arith
at_most Pause x = omega arith
at_most Resume x = omega arith
at_most Nop x = omega arith
at_most Unknown x = omega arith

few_follow : (ws : List ℕ) → neighbours ws ≤ length ws
unfolding neighbours
few_follow [] = omega arith
few_follow (w ∷ ws) = omega (arith, at_most (decoded w) (neighbours ws + 1), few_follow ws)

pub joined_few : (ws : List ℕ) (from end : ℕ) → (joined_of (slice from end ws)).cells ≤ end - from
joined_few ws from end = omega (arith, few_follow (slice from end ws), length-drop from (take end ws), length-take end ws)
