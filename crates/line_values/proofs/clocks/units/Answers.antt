-- `units` meets its contract: each turn of the loop is a law on its state, `Units`. Assumes nothing.
use mathlib.Core.Path.{sym, ◌∙◌}
use native.Mathlib.Omega.{arith}
use Rattle.std.proofs.lemmas.Result.{err_from_is_err_and}
use Rattle.line_values.proofs.Clocking.{begun, unit_refused, unit_read, in_order, surplus, all_read}
use Rattle.line_values.proofs.clocks.units.Goals as goal

pub loop-i-init : goal.loop-i-init
loop-i-init c = begun c.args.digits.now c.args.start c.args.first c.requires.unit

pub returns-in_err-values : goal.returns-in_err-values
returns-in_err-values c =
    let p = err_from_is_err_and c.from_residual.result c.from_residual.ensures.1 in
    rw (p.1, p.2) (unit_refused c.loop-i.invariant _ (in_order c.loop-i.i c.loop-i-test.true) (sym c.in_err-values.was ∙ c.unit.ensures))

pub overflow_add-at : goal.overflow_add-at
overflow_add-at c = record { fits = omega (arith, c.loop-i.invariant.place, c.requires.early) }

pub loop-i-preserved : goal.loop-i-preserved
loop-i-preserved c =
    unit_read c.loop-i.invariant _ (in_order c.loop-i.i c.loop-i-test.true) c.loop-i-test.true (sym c.in_ok-values.was ∙ c.unit.ensures)

pub returns-then-at-digits : goal.returns-then-at-digits
returns-then-at-digits c = surplus c.loop-i.invariant c.loop-i-test.false (omega (arith, c.requires.unit)) c.if-at-digits.true

pub returns : goal.returns
returns c = all_read c.loop-i.invariant c.loop-i-test.false (omega (arith, c.requires.unit)) c.if-at-digits.false
