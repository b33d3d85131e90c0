-- `same` decides whether two lists of bytes are equal. Assumes nothing.
use Prim.Native.Nat.{ℕ}
use mathlib.Core.Path.{◌≡◌, refl, sym, ap₂, subst, ◌∙◌}
use mathlib.Core.Bool.{Bool, true, false}
use mathlib.Core.List.{List, [], ◌∷◌}
use lib.Dec.{eqb}
use borrow.Author.Tests.{eqb-true, eq-eqb}
use Rattle.reader.specs.Bytes.{same}
use Rattle.reader.proofs.Tests.{both, both_left, both_right, true_is_false}

pub same_is : (a b : List ℕ) → same a b ≡ true → a ≡ b
unfolding same
same_is [] [] h = refl
same_is [] (c ∷ b) h = true_is_false (sym h)
same_is (x ∷ a) [] h = true_is_false (sym h)
same_is (x ∷ a) (c ∷ b) h =
    ap₂ (λ (y : ℕ) (l : List ℕ). y ∷ l) (eqb-true x c (both_left (eqb x c) (same a b) h)) (same_is a b (both_right (eqb x c) (same a b) h))

same_self : (a : List ℕ) → same a a ≡ true
unfolding same
same_self [] = refl
same_self (x ∷ a) = both (eqb x x) (same a a) (eq-eqb x x refl) (same_self a)

pub is_same : {a b : List ℕ} → a ≡ b → same a b ≡ true
is_same {a} {b} e = subst (λ (l : List ℕ). same a l ≡ true) e (same_self a)

-- it reads both ways
pub flipped : (a b : List ℕ) (t : Bool) → same a b ≡ t → same b a ≡ t
flipped a b true e = is_same (sym (same_is a b e))
flipped a b false e = go (same b a) refl
  where
    go : (t : Bool) → same b a ≡ t → t ≡ false
    go true f = sym (is_same (sym (same_is b a f))) ∙ e
    go false f = refl
