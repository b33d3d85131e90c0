-- `width` meets its contract: each turn of the loop is a law on its state, `Widening`. Assumes nothing.
use native.Mathlib.Omega.{arith}
use Prim.Native.Nat.{ℕ}
use mathlib.Core.Path.{◌≡◌, ◌∙◌}
use Rattle.writer.proofs.Widths.{narrow, wide_enough, widest, wider}
use Rattle.writer.proofs.width.Goals as goal

pub loop-count-init : goal.loop-count-init
loop-count-init c = narrow

pub returns-then-from-power : goal.returns-then-from-power
returns-then-from-power c = wide_enough c.loop-count.invariant (omega (arith, c.from.ensures))

pub loop-count-preserved : goal.loop-count-preserved
loop-count-preserved c = wider c.loop-count.invariant (omega arith) (omega (arith, c.from.ensures))

pub returns : goal.returns
returns c =
    let e : ◌≡◌ {A = ℕ} 10 c.loop-count.count = omega (arith, c.loop-count.invariant.few) in
    let w = widest c.loop-count.invariant (omega arith) in
    (e ∙ w.0, w.1)
