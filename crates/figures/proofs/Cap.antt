-- Capping early loses nothing, and what is capped is known up to the limit. Assumes nothing.
use mathlib.Core.Path.{◌≡◌, ap, sym, ◌∙◌}
use Prim.Native.Nat.{ℕ, zero, suc, ◌+◌, ◌*◌, max, ◌≤◌}
use native.Mathlib.Nat.{mul_comm}
use native.Mathlib.Decide.{dec_le}
use native.Mathlib.Omega.{arith}
use Rattle.figures.specs.Cap.{limit, over, cap}

pub cap_cap : (a : ℕ) → cap (cap a) ≡ cap a
cap_cap a = omega arith

pub cap_add : (a b : ℕ) → cap (cap a + cap b) ≡ cap (a + b)
cap_add a b = omega arith

pub cap_max : (a b : ℕ) → cap (max a b) ≡ max (cap a) (cap b)
cap_max a b = omega arith

-- a capped run within the limit is the run itself
pub cap_within : {k : ℕ} (n : ℕ) → k ≡ cap n → k ≤ limit → n ≡ k
cap_within n e h = omega arith

-- 4,097 copies show all that any greater number of them shows
pub many_product : (m f : ℕ) → over ≤ m → cap (m * f) ≡ cap (over * f)
many_product m zero h = omega arith
many_product m (suc f) h = omega arith

-- a product's factors may be capped first
factor : (n x : ℕ) → cap (cap n * x) ≡ cap (n * x)
factor n x = elim (dec_le n over) [
  | yes h ↦ (let e : cap n ≡ n = omega arith in ap (λ (k : ℕ). cap (k * x)) e)
  | no h ↦ (let e : cap n ≡ over = omega arith in ap (λ (k : ℕ). cap (k * x)) e ∙ sym (many_product n x (omega arith)))
]

pub cap_product : (n x : ℕ) → cap (cap n * cap x) ≡ cap (n * x)
cap_product n x = factor n (cap x) ∙ ap cap (mul_comm n (cap x)) ∙ factor x n ∙ ap cap (mul_comm x n)
