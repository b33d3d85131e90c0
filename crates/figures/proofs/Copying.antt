-- Copies end to end: the closed form is the iterated join. Assumes nothing.
use mathlib.Core.Path.{◌≡◌, refl, ap, sym, ◌∙◌}
use mathlib.Core.Bool.{Bool, true, false}
use Prim.Native.Nat.{ℕ, zero, suc, max, ◌≤◌}
use native.Mathlib.Omega.{arith}
use borrow.Author.Tests.{ne_eqb}
use Rattle.figures.specs.declared.Figures.{Figures}
use Rattle.figures.specs.Cap.{over, cap}
use Rattle.figures.specs.Figures.{fig, capped, join, joined_capped, empty, again, copies_capped}
use Rattle.figures.proofs.Associative.{fig_path}
use Rattle.figures.proofs.Capping.{joined_capped_left, joined_capped_right}
use Rattle.figures.proofs.Cap.{cap_max, many_product}

-- n copies, joined one by one
unfoldable pub power : ℕ → Figures → Figures
power zero a = empty
power (suc n) a = join a (power n a)

-- one copy more
more : (n : ℕ) (ae ar : Bool) (f l g : ℕ) → join (fig ar ae f l g) (again n (fig ar ae f l g)) ≡ again (suc n) (fig ar ae f l g)
unfolding join again
more zero false ar f l g = refl
more (suc n) false ar f l g = refl
more zero true true f l g = fig_path refl refl refl (omega arith) (omega arith)
more zero true false f l g = fig_path refl refl (omega arith) (omega arith) (omega arith)
more (suc zero) true true f l g = fig_path refl refl refl refl (omega arith)
more (suc (suc n)) true true f l g = fig_path refl refl refl refl (simp (ne_eqb (suc (suc n)) 1 (omega arith), ne_eqb (suc (suc (suc n))) 1 (omega arith)) (omega arith))
more (suc n) true false f l g = fig_path refl refl (omega arith) (omega arith) (omega arith)

pub again_power : (n : ℕ) (a : Figures) → again n a ≡ power n a
unfolding power
again_power zero a = unfold again in refl
again_power (suc n) a = sym (more n a.ends a.rests a.first a.last a.longest) ∙ ap (join a) (again_power n a)

-- capping early loses nothing
power_capped : (n : ℕ) (a : Figures) → capped (power n (capped a)) ≡ capped (power n a)
unfolding power
power_capped zero a = refl
power_capped (suc n) a =
    joined_capped_left a (power n (capped a)) ∙ sym (joined_capped_right a (power n (capped a))) ∙ ap (joined_capped a) (power_capped n a) ∙ joined_capped_right a (power n a)

pub copies_capped_lem : (n : ℕ) (a : Figures) → copies_capped n (capped a) ≡ copies_capped n a
copies_capped_lem n a = rw (again_power n (capped a), again_power n a) (power_capped n a)

-- 4,097 copies show all that any greater number of them shows
many_parts : (n : ℕ) → over ≤ suc n → (ae ar : Bool) (f l g : ℕ) → copies_capped (suc n) (fig ar ae f l g) ≡ copies_capped over (fig ar ae f l g)
unfolding capped again
many_parts n h false ar f l g = refl
many_parts n h true true f l g = simp (ne_eqb (suc n) 1 (omega arith))
many_parts n h true false f l g =
    fig_path refl refl (many_product (suc n) f h) (many_product (suc n) f h) (simp cap_max (ap (max (cap g)) (many_product (suc n) f h)))

pub copies_many : (m : ℕ) → over ≤ m → (a : Figures) → copies_capped m a ≡ copies_capped over a
copies_many zero h a = absurd (omega arith)
copies_many (suc n) h a = many_parts n h a.ends a.rests a.first a.last a.longest
