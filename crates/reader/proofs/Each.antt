-- A loop that tests each element from a place on: what is left is decided by the elements from i on. Assumes nothing.
use Prim.Native.Nat.{ℕ, zero, suc, ◌+◌, ◌≤◌, ◌<◌}
use mathlib.Core.Path.{◌≡◌}
use mathlib.Core.Bool.{Bool, true, false}
use mathlib.Core.List.{List, [], ◌∷◌}
use native.Mathlib.Omega.{arith}
use Rattle.reader.proofs.Tests.{both_left, both_right}
use native.Mathlib.Numerals.{add-one}
use lib.ListN.{length, drop, get_or, drop_of_length-le}
use lib.Seq.{drop-cons}
use Rattle.reader.specs.Bytes.{all}

module _ {A : Type 0} (p : A → Bool) (l : List A) (i : ℕ) (d : A) where
  pub each_past : i < length l → p (get_or l i d) ≡ true → all p (drop i l) ≡ all p (drop (i + 1) l)
  each_past h e = rw (add-one, drop-cons l i d, e)

  pub each_not : i < length l → p (get_or l i d) ≡ false → all p (drop i l) ≡ false
  each_not h e = rw (drop-cons l i d, e)

pub each_end : {A : Type 0} (p : A → Bool) (l : List A) (i : ℕ) → length l ≤ i → all p (drop i l) ≡ true
each_end p l i h = rw (drop_of_length-le l h)

pub each_at : {A : Type 0} (p : A → Bool) (l : List A) (i : ℕ) (d : A) → all p l ≡ true → i < length l → p (get_or l i d) ≡ true
each_at p [] i d e h = absurd (omega arith)
each_at p (x ∷ l) zero d e h = both_left (p x) (all p l) e
each_at p (x ∷ l) (suc i) d e h = each_at p l i d (both_right (p x) (all p l) e) (omega arith)
