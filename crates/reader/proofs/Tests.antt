-- What a computed test says. Assumes nothing.
use Prim.Native.Nat.{ℕ, zero, suc}
use native.Mathlib.Omega.{arith}
use mathlib.Core.Path.{◌≡◌, refl}
use mathlib.Core.Bool.{Bool, true, false, cond, ◌&&◌}
use mathlib.Core.List.{List, [], ◌∷◌, ◌++◌}
use lib.ListN.{take}
use Rattle.reader.specs.Bytes.{all}

pub both_left : (a b : Bool) → (a && b) ≡ true → a ≡ true
both_left true b e = refl
both_left false b e = e

pub both_right : (a b : Bool) → (a && b) ≡ true → b ≡ true
both_right true b e = e
both_right false b e = cc

pub both : (a b : Bool) → a ≡ true → b ≡ true → (a && b) ≡ true
both true b p q = q
both false b p q = p

pub and_false : (t : Bool) → (t && false) ≡ false
and_false true = refl
and_false false = refl

pub true_is_false : {A : Type 0} → true ≡ false → A
true_is_false e = let z : ◌≡◌ {A = ℕ} 0 1 = cc in absurd (omega arith)

-- what holds by both cases of a test
pub by_cases : {A : Type 0} (P : A → Type 0) (t : Bool) (x y : A) → (t ≡ true → P x) → (t ≡ false → P y) → P (cond t x y)
by_cases P true x y f g = f refl
by_cases P false x y f g = g refl

-- ---- a test of every byte

pub all_append : (p : ℕ → Bool) (a b : List ℕ) → all p a ≡ true → all p b ≡ true → all p (a ++ b) ≡ true
all_append p [] b h k = k
all_append p (x ∷ a) b h k = both (p x) (all p (a ++ b)) (both_left (p x) (all p a) h) (all_append p a b (both_right (p x) (all p a) h) k)

pub all_take : (p : ℕ → Bool) (n : ℕ) (l : List ℕ) → all p l ≡ true → all p (take n l) ≡ true
all_take p zero l h = refl
all_take p (suc n) [] h = refl
all_take p (suc n) (b ∷ l) h = both (p b) (all p (take n l)) (both_left (p b) (all p l) h) (all_take p n l (both_right (p b) (all p l) h))

-- the same as a fact of every byte
abbrev pub Every : (ℕ → Type 0) → List ℕ → Type 0
Every P [] = Unit {0}
Every P (b ∷ l) = P b × Every P l

pub every_append : (P : ℕ → Type 0) (a b : List ℕ) → Every P a → Every P b → Every P (a ++ b)
every_append P [] b h k = k
every_append P (x ∷ a) b h k = (h.0, every_append P a b h.1 k)

pub every_of : (P : ℕ → Type 0) (p : ℕ → Bool) → ((b : ℕ) → p b ≡ true → P b) → (l : List ℕ) → all p l ≡ true → Every P l
every_of P p f [] h = tt
every_of P p f (b ∷ l) h = (f b (both_left (p b) (all p l) h), every_of P p f l (both_right (p b) (all p l) h))
