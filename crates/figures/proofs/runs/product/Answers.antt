-- `product` meets its contract: the factors may be capped first, and the product of two capped numbers fits. Assumes nothing.
use Prim.Native.Nat.{◌*◌, ◌≤◌}
use native.Mathlib.Nat.{mul-le-mul}
use native.Mathlib.Omega.{arith}
use Rattle.figures.specs.Cap.{over}
use Rattle.figures.proofs.Cap.{cap_product}
use Rattle.figures.proofs.runs.product.Goals as goal

pub overflow_mul-held : goal.overflow_mul-held
overflow_mul-held c = let h : c.held.result * c.held-2.result ≤ over * over = mul-le-mul {n₂ = over} {m₂ = over} (omega arith) (omega arith) in omega arith

pub returns : goal.returns
returns c = cc (cap_product c.args.n c.args.x)
