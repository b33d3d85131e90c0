-- What the code's tests decide of a join, of copies and of the passes of a loop. Assumes nothing.
use mathlib.Core.Path.{◌≡◌, refl}
use mathlib.Core.Bool.{Bool, true, false, cond, ◌||◌}
use Prim.Native.Nat.{ℕ, zero, suc, ◌+◌, ◌*◌, max}
use lib.Dec.{eqb}
use Rattle.figures.specs.declared.Figures.{Figures}
use Rattle.figures.specs.Cap.{over, cap}
use Rattle.figures.specs.Figures.{fig, capped, join, joined_capped, one_statement, never, empty, last_of, again, copies_capped, looped}
use Rattle.figures.proofs.Associative.{fig_path}
use Rattle.figures.proofs.Cap.{cap_max}

cap_cond : (t : Bool) (x y : ℕ) → cap (cond t x y) ≡ cond t (cap x) (cap y)
cap_cond true x y = refl
cap_cond false x y = refl

module _ (a b : Figures) where
  pub joined_ends : a.ends ≡ true →
      joined_capped a b ≡ fig (a.rests || b.rests) b.ends
      (cond a.rests (cap a.first) (cap (a.first + b.first)))
      (cond b.rests (cap b.last) (cap (last_of a + b.first)))
      (max (max (cap a.longest) (cap b.longest)) (cap (last_of a + b.first)))
  unfolding join capped
  joined_ends h = rw h
      (fig_path refl refl (cap_cond a.rests a.first (a.first + b.first)) (cap_cond b.rests b.last (last_of a + b.first)) (simp cap_max))

  pub joined_never : a.ends ≡ false → joined_capped a b ≡ capped a
  unfolding join
  joined_never h = rw h refl

pub copies_none : (n : ℕ) (a : Figures) → n ≡ 0 → copies_capped n a ≡ empty
unfolding again capped
copies_none n a z = rw z refl

pub copies_rest : (n : ℕ) (a : Figures) → (n ≡ 0 → ⊥) → a.ends ≡ true → a.rests ≡ true →
    copies_capped n a ≡ fig true true (cap a.first) (cap a.last) (max (cap a.longest) (cap (a.last + cond (eqb n 1) 0 a.first)))
unfolding again capped
copies_rest zero a z h r = absurd (z refl)
copies_rest (suc n) a z h r = rw (h, r) (fig_path refl refl refl refl (cap_max _ _))

pub copies_flat : (n : ℕ) (a : Figures) → (n ≡ 0 → ⊥) → a.ends ≡ true → a.rests ≡ false →
    copies_capped n a ≡ fig false true (cap (n * a.first)) (cap (n * a.first)) (max (cap a.longest) (cap (n * a.first)))
unfolding again capped
copies_flat zero a z h r = absurd (z refl)
copies_flat (suc n) a z h r = rw (h, r) (fig_path refl refl refl refl (cap_max _ _))

pub copies_never : (n : ℕ) (a : Figures) → (n ≡ 0 → ⊥) → a.ends ≡ false → copies_capped n a ≡ capped a
unfolding again
copies_never zero a z h = absurd (z refl)
copies_never (suc n) a z h = rw h refl

pub looped_ever : (n : ℕ) (b : Figures) → n ≡ 0 → looped n b ≡ joined_capped (copies_capped over (joined_capped b one_statement)) never
unfolding looped
looped_ever n b z = rw z refl

pub looped_some : (n : ℕ) (b : Figures) → (n ≡ 0 → ⊥) → looped n b ≡ copies_capped n (joined_capped b one_statement)
unfolding looped
looped_some zero b z = absurd (z refl)
looped_some (suc n) b z = refl
