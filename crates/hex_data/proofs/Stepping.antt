-- The loops over hex data: the definition at the bytes left, the state of each loop, and one law for each way on. Assumes nothing.
use Prim.Native.Nat.{ℕ, ◌+◌, ◌≤◌, ◌<◌}
use Rattle.std.specs.Prelude.{Option, Some, None, Ok, Err}
use Rattle.std.specs.Option.{is_some}
use mathlib.Core.Path.{◌≡◌, refl, sym, ap, subst, ◌∙◌}
use mathlib.Core.Bool.{Bool, true, false, cond}
use mathlib.Core.List.{List, [], ◌∷◌}
use native.Mathlib.Nat.{add-zero}
use native.Mathlib.Numerals.{add-one}
use native.Mathlib.Omega.{arith}
use lib.Dec.{ltb, leb}
use lib.ListN.{length, drop, get_or, set, drop_of_length-le}
use lib.Seq.{drop-cons, sets}
use borrow.Author.Tests.{lt-ltb, le-ltb}
use Rattle.hex_data.specs.Hex.{Said, step_of, byte_before, after_step, hex_go, hex_at, counted, hex_into, hex_put, good, bad}
use Rattle.hex_data.specs.Hex.{HexStep, Refuse, Skip, First, Whole}
use Rattle.hex_data.specs.Inside.Said.{said_bytes}
use Rattle.hex_data.specs.Inside.Steps as pairs
use Rattle.hex_data.proofs.Pairs.{Small, small}
use Rattle.reader.proofs.Tests.{true_is_false}
use Rattle.hex_data.specs.declared.HexFault.TheVariants.{Full}
use Rattle.reader.proofs.Placing.{Placing, begun, renamed, fits, stored, placed}

hex_end : (s : List ℕ) (half i : ℕ) → length s ≤ i → hex_go (drop i s) half i ≡ good (cond (ltb half 16) (half ∷ []) [])
unfolding hex_go
hex_end s half i h = rw (drop_of_length-le s h)

-- `st` is the step that the code has found at the place `i`
hex_on : (s : List ℕ) (half i : ℕ) (st : HexStep) → i < length s → st ≡ step_of half (get_or s i 0)
    → hex_go (drop i s) half i ≡ after_step i st (hex_go (drop (i + 1) s) 16 (i + 1)) (λ h. hex_go (drop (i + 1) s) h (i + 1))
unfolding hex_go
hex_on s half i st h is = rw (add-one i, drop-cons s i 0) (simp (is, add-one))

-- ---- the count of the whole is the count of the bytes from `i` on, after `half`, on top of `n`

pub record Counting (s : List ℕ) (at n half i : ℕ) : Type 0 where
  pub few : n ≤ i
  pub digit : half < 16 → n < length s
  pub whole : counted 0 (hex_at s at) ≡ counted n (hex_go (drop i s) half i)

pub uncounted : {s : List ℕ} {at : ℕ} → Counting s at 0 16 at
unfolding hex_at
uncounted = record { few = omega arith; digit = λ h. absurd (omega arith); whole = refl }

-- a byte in front is one more
counted_before : (n b : ℕ) (x : Said) → counted n (byte_before b x) ≡ counted (n + 1) x
unfolding counted byte_before
counted_before n b (good bs) = ap Ok (omega arith)
counted_before n b (bad at) = refl

module _ {s : List ℕ} {at n half i : ℕ} (w : Counting s at n half i) where
  -- the data end after one digit of a pair, or after a whole byte
  pub odd_end : length s ≤ i → half < 16 → counted 0 (hex_at s at) ≡ Ok (n + 1)
  unfolding counted
  odd_end h k = w.whole ∙ ap (counted n) (hex_end s half i h) ∙ simp (lt-ltb _ _ k)

  pub even_end : length s ≤ i → 16 ≤ half → counted 0 (hex_at s at) ≡ Ok n
  unfolding counted
  even_end h k = w.whole ∙ ap (counted n) (hex_end s half i h) ∙ simp (le-ltb _ _ k, add-zero)

  -- the count from the step `st` on
  module _ {st : HexStep} (inside : i < length s) (is : st ≡ step_of half (get_or s i 0)) where
    from_step : counted 0 (hex_at s at) ≡ counted n (after_step i st (hex_go (drop (i + 1) s) 16 (i + 1)) (λ h. hex_go (drop (i + 1) s) h (i + 1)))
    from_step = w.whole ∙ ap (counted n) (hex_on s half i st inside is)

  pub refused : i < length s → Refuse ≡ step_of half (get_or s i 0) → counted 0 (hex_at s at) ≡ Err i
  unfolding counted
  refused h is = from_step h is

  pub skipped : i < length s → Skip ≡ step_of half (get_or s i 0) → Counting s at n 16 (i + 1)
  skipped h is = record { few = omega (arith, w.few); digit = λ k. absurd (omega arith); whole = from_step h is }

  pub paired : {d : ℕ} → i < length s → First d ≡ step_of half (get_or s i 0) → Counting s at n d (i + 1)
  paired h is = record { few = omega (arith, w.few); digit = λ k. omega (arith, w.few); whole = from_step h is }

  pub one_more : {b : ℕ} → i < length s → Whole b ≡ step_of half (get_or s i 0) → Counting s at (n + 1) 16 (i + 1)
  one_more {b} h is = record { few = omega (arith, w.few); digit = λ k. absurd (omega arith); whole = from_step h is ∙ counted_before n b _ }

-- at the end, by whether a pair is begun
module _ {s : List ℕ} {at n i : ℕ} (half : Option ℕ) (w : Counting s at n (pairs.begun half) i) (h : length s ≤ i) (k : Small half) where
  pub odd_counted : true ≡ is_some half → Ok (n + 1) ≡ counted 0 (hex_at s at)
  odd_counted e = go half w k e
    where
      go : (o : Option ℕ) → Counting s at n (pairs.begun o) i → Small o → true ≡ is_some o → Ok (n + 1) ≡ counted 0 (hex_at s at)
      go None v l f = true_is_false f
      go (Some d) v l f = sym (odd_end v h l)

  pub even_counted : false ≡ is_some half → Ok n ≡ counted 0 (hex_at s at)
  even_counted e = go half w k e
    where
      go : (o : Option ℕ) → Counting s at n (pairs.begun o) i → Small o → false ≡ is_some o → Ok n ≡ counted 0 (hex_at s at)
      go None v l f = sym (even_end v h (omega arith))
      go (Some d) v l f = true_is_false (sym f)

-- ---- good data that are being written: the bytes from `i` on, after `half`, are good, and are what is still to be written

pub record Writing (s d₀ : List ℕ) (to : ℕ) (bs d : List ℕ) (place half i : ℕ) : Type 0 where
  pub sound : hex_go (drop i s) half i ≡ good (said_bytes (hex_go (drop i s) half i))
  pub placing : Placing d₀ to bs d place (said_bytes (hex_go (drop i s) half i))

pub unwritten : {s : List ℕ} {at : ℕ} {d : List ℕ} {to : ℕ} → hex_at s at ≡ good (said_bytes (hex_at s at)) → to + length (said_bytes (hex_at s at)) ≤ length d
    → Writing s d to (said_bytes (hex_at s at)) d to 16 at
unfolding hex_at
unwritten e h = record { sound = e; placing = begun h }

-- where a byte in front of what the rest says is good, the rest is
sound_rest : (b : ℕ) (bs : List ℕ) (x : Said) → byte_before b x ≡ good bs → x ≡ good (said_bytes x)
unfolding byte_before said_bytes
sound_rest b bs (good cs) e = refl
sound_rest b bs (bad at) e = cc

bytes_front : (b : ℕ) (x : Said) → x ≡ good (said_bytes x) → said_bytes (byte_before b x) ≡ b ∷ said_bytes x
unfolding byte_before said_bytes
bytes_front b (good bs) e = refl
bytes_front b (bad at) e = cc

module _ {s d₀ : List ℕ} {to : ℕ} {bs d : List ℕ} {place half i : ℕ} (w : Writing s d₀ to bs d place half i) where
  -- the data end: one digit of a pair is still to be written, or nothing
  at_end_lem : length s ≤ i → Placing d₀ to bs d place (cond (ltb half 16) (half ∷ []) [])
  unfolding said_bytes
  at_end_lem h = renamed (ap said_bytes (hex_end s half i h)) w.placing

  module _ (h : length s ≤ i) (k : half < 16) where
    one_left : Placing d₀ to bs d place (half ∷ [])
    one_left = rw (lt-ltb half 16 k) at (at_end_lem h)

    pub room_for_digit : place < length d
    room_for_digit = fits one_left

    pub digit_written : set d place half ≡ sets d₀ to bs
    digit_written = placed (stored one_left)

  pub all_written : length s ≤ i → 16 ≤ half → d ≡ sets d₀ to bs
  all_written h k = placed (rw (le-ltb half 16 k) at (at_end_lem h))

  -- good data have no byte that is refused
  pub none_refused : i < length s → Refuse ≡ step_of half (get_or s i 0) → d ≡ sets d₀ to bs
  none_refused h is =
      let e : bad i ≡ good (said_bytes (hex_go (drop i s) half i)) = sym (hex_on s half i _ h is) ∙ w.sound in
      let z : ◌≡◌ {A = ℕ} 0 1 = cc in
      absurd (omega arith)

  -- the rest says the same from the state that the step leads to
  on : {half' : ℕ} → hex_go (drop i s) half i ≡ hex_go (drop (i + 1) s) half' (i + 1) → Writing s d₀ to bs d place half' (i + 1)
  on e = record { sound = sym e ∙ w.sound ∙ ap (λ (x : Said). good (said_bytes x)) e; placing = renamed (ap said_bytes e) w.placing }

  pub parted : i < length s → Skip ≡ step_of half (get_or s i 0) → Writing s d₀ to bs d place 16 (i + 1)
  parted h is = on (hex_on s half i _ h is)

  pub begins : {c : ℕ} → i < length s → First c ≡ step_of half (get_or s i 0) → Writing s d₀ to bs d place c (i + 1)
  begins h is = on (hex_on s half i _ h is)

  module _ {b : ℕ} (h : i < length s) (is : Whole b ≡ step_of half (get_or s i 0)) where
    sound_on : hex_go (drop (i + 1) s) 16 (i + 1) ≡ good (said_bytes (hex_go (drop (i + 1) s) 16 (i + 1)))
    sound_on = sound_rest b _ _ (sym (hex_on s half i _ h is) ∙ w.sound)

    next_byte : Placing d₀ to bs d place (b ∷ said_bytes (hex_go (drop (i + 1) s) 16 (i + 1)))
    next_byte = renamed (ap said_bytes (hex_on s half i _ h is) ∙ bytes_front b _ sound_on) w.placing

    pub room_there : place < length d
    room_there = fits next_byte

    pub byte_stored : Writing s d₀ to bs (set d place b) (place + 1) 16 (i + 1)
    byte_stored = record { sound = sound_on; placing = stored next_byte }

-- at the end, by whether a pair is begun
module _ {s d₀ : List ℕ} {to : ℕ} {bs d : List ℕ} {place i : ℕ} (half : Option ℕ) (w : Writing s d₀ to bs d place (pairs.begun half) i) (h : length s ≤ i)
    (k : Small half) where
  pub room_at_end : {x : ℕ} → half ≡ Some x → place < length d
  room_at_end {x} e = room_for_digit (subst (λ o. Writing s d₀ to bs d place (pairs.begun o) i) e w) h (small e k)

  pub digit_at_end : {x : ℕ} → half ≡ Some x → set d place x ≡ sets d₀ to bs
  digit_at_end {x} e = digit_written (subst (λ o. Writing s d₀ to bs d place (pairs.begun o) i) e w) h (small e k)

  pub none_at_end : half ≡ None → d ≡ sets d₀ to bs
  none_at_end e = all_written (subst (λ o. Writing s d₀ to bs d place (pairs.begun o) i) e w) h (omega arith)

-- ---- the answer and what the slice then holds, by the count

module _ (d : List ℕ) (to : ℕ) where
  pub into_full : {n : ℕ} {t : Bool} (x : Said) → Ok n ≡ counted 0 x → t ≡ leb (to + n) (length d) → t ≡ false
      → (Err Full ≡ hex_into x d to) × (d ≡ hex_put x d to)
  unfolding counted hex_into hex_put
  into_full {n} (good bs) e told h =
      let s : n ≡ 0 + length bs = cc in
      let l : length bs ≡ n = omega arith in
      let f : leb (to + length bs) (length d) ≡ false = ap (λ (k : ℕ). leb (to + k) (length d)) l ∙ sym told ∙ h in
      (rw f, rw f)
  into_full (bad at) e told h = let z : ◌≡◌ {A = ℕ} 0 1 = cc in absurd (omega arith)

  pub into_fits : {n : ℕ} {t : Bool} (x : Said) → Ok n ≡ counted 0 x → t ≡ leb (to + n) (length d) → t ≡ true
      → (Ok n ≡ hex_into x d to) × (sets d to (said_bytes x) ≡ hex_put x d to)
  unfolding counted hex_into hex_put said_bytes
  into_fits {n} (good bs) e told h =
      let s : n ≡ 0 + length bs = cc in
      let l : length bs ≡ n = omega arith in
      let f : leb (to + length bs) (length d) ≡ true = ap (λ (k : ℕ). leb (to + k) (length d)) l ∙ sym told ∙ h in
      (rw f (ap Ok (sym l)), rw f)
  into_fits (bad at) e told h = let z : ◌≡◌ {A = ℕ} 0 1 = cc in absurd (omega arith)

pub counted_good : {n : ℕ} (x : Said) → Ok n ≡ counted 0 x → x ≡ good (said_bytes x)
unfolding counted said_bytes
counted_good (good bs) e = refl
counted_good (bad at) e = cc

pub counted_room : {n : ℕ} (to k : ℕ) (x : Said) → Ok n ≡ counted 0 x → to + n ≤ k → to + length (said_bytes x) ≤ k
unfolding counted said_bytes
counted_room {n} to k (good bs) e h = let s : n ≡ 0 + length bs = cc in omega arith
counted_room to k (bad at) e h = let z : ◌≡◌ {A = ℕ} 0 1 = cc in absurd (omega arith)
