-- A reading from another place gives the same answer, its place moved by the difference. Assumes nothing.
use Prim.Native.Nat.{ℕ, ◌+◌, ◌*◌}
use mathlib.Core.Path.{◌≡◌, refl, sym, ap, ◌∙◌}
use mathlib.Core.Bool.{Bool, true, false, cond}
use mathlib.Core.List.{List, [], ◌∷◌}
use native.Mathlib.Nat.{add-zero, add_assoc}
use lib.Dec.{ltb, leb}
use Rattle.reader.specs.Bytes.{digit_of}
use Rattle.numbers.specs.Number.{digits_ended, number_go}
use Rattle.numbers.specs.Inside.Moved.{moved_on}

-- a choice of two answers moves with both
pub both_moved : {A : Type 0} (m : A → A) (t : Bool) {x y x' y' : A} → x ≡ m x' → y ≡ m y' → cond t x y ≡ m (cond t x' y')
both_moved m true p q = p
both_moved m false p q = q

-- one place on
pub next : (k at : ℕ) → k + at + 1 ≡ k + (at + 1)
next k at = add_assoc k at 1

ended_moved : (n v k at : ℕ) → digits_ended n v (k + at) ≡ moved_on k (digits_ended n v at)
unfolding digits_ended moved_on
ended_moved n v k at = both_moved (moved_on k) (ltb 0 n) refl refl

pub number_moved : (most limit : ℕ) (l : List ℕ) (n v k at : ℕ) → number_go most limit l n v (k + at) ≡ moved_on k (number_go most limit l n v at)
unfolding number_go moved_on
number_moved most limit [] n v k at = ended_moved n v k at
number_moved most limit (b ∷ rest) n v k at =
    let d : ℕ = digit_of b in
    both_moved (moved_on k) (ltb d 10)
    (both_moved (moved_on k) (ltb n most)
    (both_moved (moved_on k) (leb (v * 10 + d) limit)
    (ap (number_go most limit rest (n + 1) (v * 10 + d)) (next k at) ∙ number_moved most limit rest (n + 1) (v * 10 + d) k (at + 1))
    refl)
    refl)
    (ended_moved n v k at)

-- a reading of what is left, moved from place 0
pub from_zero_lem : {A : Type 0} (f : ℕ → A) (m : ℕ → A → A) → ((k at : ℕ) → f (k + at) ≡ m k (f at)) → (at : ℕ) → f at ≡ m at (f 0)
from_zero_lem f m h at = ap f (sym (add-zero at)) ∙ h at 0
