-- `unit` meets its contract: two digits, or none. Assumes nothing.
use mathlib.Core.Path.{sym, ap, ◌∙◌}
use native.Mathlib.Omega.{arith}
use Rattle.std.proofs.lemmas.Result.{err_from_is_err_and}
use Rattle.language.specs.Clock.{range}
use Rattle.line_values.specs.Inside.ClockUnits.{unit_from}
use Rattle.line_values.proofs.ClockUnits.{left_out, unit_is, unit_small}
use Rattle.line_values.proofs.clocks.unit.Goals as goal

pub returns-then-digits-at : goal.returns-then-digits-at
returns-then-digits-at c = left_out _ _ _ c.if-digits-at.true

pub returns-in_err-read : goal.returns-in_err-read
unfolding unit_from
returns-in_err-read c =
    let p = err_from_is_err_and c.from_residual.result c.from_residual.ensures.1 in
    rw (p.1, p.2) (ap unit_from (sym c.in_err-read.was ∙ c.pair.ensures) ∙ unit_is (range _ _) _ _ c.if-digits-at.false)

pub overflow_cast-result : goal.overflow_cast-result
overflow_cast-result c =
    let h = unit_small (range _ _) _ _ (sym c.in_ok-read.was ∙ c.pair.ensures) in
    omega arith

pub returns : goal.returns
unfolding unit_from
returns c = ap unit_from (sym c.in_ok-read.was ∙ c.pair.ensures) ∙ unit_is (range _ _) _ _ c.if-digits-at.false
