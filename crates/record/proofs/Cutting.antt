-- A record that is cut after 127 bytes, written piece after piece: what was to be put into the buffer as it came is what is still to be
-- put into it as it stands. Assumes nothing.
use Prim.Native.Nat.{ℕ, zero, suc, ◌+◌, ◌-◌, ◌≤◌}
use mathlib.Core.Path.{◌≡◌, refl, sym, ap, ◌∙◌}
use mathlib.Core.List.{List, [], ◌∷◌, ◌++◌}
use native.Mathlib.Omega.{arith}
use lib.ListN.{length, take, length-append, length-take}
use lib.Seq.{take-nil}
use Rattle.writer.specs.Put.{put_into}
use Rattle.writer.proofs.Joined.{put_length, put_joined}
use Rattle.record.proofs.Putting.{put_sets}

take_parts : (m : ℕ) (p q : List ℕ) → take m (p ++ q) ≡ take m p ++ take (m - length (take m p)) q
take_parts zero p q = refl
take_parts (suc m) [] q = let e : suc m - 0 ≡ suc m = omega arith in rw e
take_parts (suc m) (x ∷ p) q =
    let e : suc m - suc (length (take m p)) ≡ m - length (take m p) = omega arith in
    rw e (ap (λ (l : List ℕ). x ∷ l) (take_parts m p q))

pub record Cutting (d₀ whole d : List ℕ) (n : ℕ) (rest : List ℕ) : Type 0 where
  pub room : 127 ≤ length d₀
  pub long : length d ≡ length d₀
  pub few : n ≤ 127
  pub ends : length (take 127 whole) ≡ n + length (take (127 - n) rest)
  pub written : put_into (take 127 whole) d₀ 0 ≡ put_into (take (127 - n) rest) d n

pub begun : {d whole : List ℕ} → 127 ≤ length d → Cutting d whole d 0 whole
begun h = record { room = h; long = refl; few = omega arith; ends = omega arith; written = refl }

module _ {d₀ whole d : List ℕ} {n : ℕ} (p q : List ℕ) where
  next : Cutting d₀ whole d n (p ++ q) → Cutting d₀ whole (put_into (take (127 - n) p) d n) (n + length (take (127 - n) p)) q
  next w =
      let m : ℕ = 127 - n in
      let k : ℕ = length (take m p) in
      let rest : List ℕ = take (127 - (n + k)) q in
      let h : k ≤ m = omega (arith, length-take m p) in
      let e : m - k ≡ 127 - (n + k) = omega arith in
      let t : take m (p ++ q) ≡ take m p ++ rest = take_parts m p q ∙ ap (λ (j : ℕ). take m p ++ take j q) e in
      let l : length (take m p ++ rest) ≡ k + length rest = length-append (take m p) rest in
      let fits : n + length (take m p ++ rest) ≤ length d = omega (arith, w.few, w.room, w.long, length-take (127 - (n + k)) q) in
      record {
        room = w.room;
        long = put_length (take m p) d n ∙ w.long;
        few = omega (arith, w.few);
        ends = w.ends ∙ ap (λ (y : List ℕ). n + length y) t ∙ omega arith;
        written = w.written ∙ ap (λ (y : List ℕ). put_into y d n) t ∙ sym (put_joined (take m p) rest d n fits);
      }

  -- a turn of the loop: `p` is put, cut, and `q` is left
  pub cut_on : {rest d' : List ℕ} {n' : ℕ} → rest ≡ p ++ q → (n' ≡ n + length (take (127 - n) p)) × (d' ≡ put_into (take (127 - n) p) d n)
      → Cutting d₀ whole d n rest → Cutting d₀ whole d' n' q
  cut_on e h w = rw (h.0, h.1) (next (rw e at w))

pub cut_done : {d₀ whole d : List ℕ} {n : ℕ} {rest : List ℕ} → rest ≡ [] → Cutting d₀ whole d n rest
    → (n ≡ length (take 127 whole)) × (d ≡ put_into (take 127 whole) d₀ 0)
cut_done {d = d} {n = n} e w =
    let t : take (127 - n) _ ≡ [] = ap (take (127 - n)) e ∙ take-nil (127 - n) in
    let h : n + 0 ≤ length d = omega (arith, w.few, w.room, w.long) in
    (omega (arith, w.ends, ap length t), sym (w.written ∙ ap (λ (y : List ℕ). put_into y d n) t ∙ put_sets [] d n h))
