-- Capping early loses nothing: the capped figures of a join follow from the capped figures of its parts. Assumes nothing.
use mathlib.Core.Path.{◌≡◌, refl, ap, sym, ◌∙◌}
use mathlib.Core.Bool.{Bool, true, false, cond}
use Prim.Native.Nat.{ℕ, ◌+◌, max}
use Rattle.figures.specs.declared.Figures.{Figures}
use Rattle.figures.specs.Figures.{fig, capped, join, joined_capped}
use Rattle.figures.specs.Cap.{cap}
use Rattle.figures.proofs.Cap.{cap_cap, cap_add, cap_max}
use Rattle.figures.proofs.Associative.{fig_path, join_assoc}

pub capped_capped : (a : Figures) → capped (capped a) ≡ capped a
unfolding capped
capped_capped a = fig_path refl refl (cap_cap a.first) (cap_cap a.last) (cap_cap a.longest)

cap_first : (a : Bool) (x y : ℕ) → cap (cond a (cap x) (cap x + cap y)) ≡ cap (cond a x (x + y))
cap_first true x y = cap_cap x
cap_first false x y = cap_add x y

cap_last : (a b : Bool) (x y z w : ℕ) → cap (cond b (cap w) (cond a (cap x) (cap y) + cap z)) ≡ cap (cond b w (cond a x y + z))
cap_last true true x y z w = cap_cap w
cap_last false true x y z w = cap_cap w
cap_last true false x y z w = cap_add x z
cap_last false false x y z w = cap_add y z

cap_longest : (a : Bool) (p q x y z : ℕ) → cap (max (max (cap p) (cap q)) (cond a (cap x) (cap y) + cap z)) ≡ cap (max (max p q) (cond a x y + z))
cap_longest true p q x y z = simp (cap_max, cap_cap, cap_add)
cap_longest false p q x y z = simp (cap_max, cap_cap, cap_add)

parts : (ae ar br be : Bool) (af al ag bf bl bg : ℕ) →
    capped (join (capped (fig ar ae af al ag)) (capped (fig br be bf bl bg))) ≡ capped (join (fig ar ae af al ag) (fig br be bf bl bg))
unfolding capped join
parts false ar br be af al ag bf bl bg = fig_path refl refl (cap_cap af) (cap_cap al) (cap_cap ag)
parts true ar br be af al ag bf bl bg = fig_path refl refl (cap_first ar af bf) (cap_last ar br al af bf bl) (cap_longest ar ag bg al af bf)

-- the parts may be capped first, both or either
pub joined_capped_lem : (a b : Figures) → joined_capped (capped a) (capped b) ≡ joined_capped a b
joined_capped_lem a b = parts a.ends a.rests b.rests b.ends a.first a.last a.longest b.first b.last b.longest

pub joined_capped_left : (a b : Figures) → joined_capped (capped a) b ≡ joined_capped a b
joined_capped_left a b = sym (joined_capped_lem (capped a) b) ∙ ap (λ (x : Figures). joined_capped x (capped b)) (capped_capped a) ∙ joined_capped_lem a b

pub joined_capped_right : (a b : Figures) → joined_capped a (capped b) ≡ joined_capped a b
joined_capped_right a b = sym (joined_capped_lem a (capped b)) ∙ ap (λ (x : Figures). joined_capped (capped a) x) (capped_capped b) ∙ joined_capped_lem a b

-- so the capped join is associative too
pub joined_assoc : (a b c : Figures) → joined_capped (joined_capped a b) c ≡ joined_capped a (joined_capped b c)
joined_assoc a b c = joined_capped_left (join a b) c ∙ ap capped (join_assoc a b c) ∙ sym (joined_capped_right a (join b c))
