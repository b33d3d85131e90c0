-- `wait_byte` meets its contract: each `return` is a case of `byte_of`. Assumes nothing.
use mathlib.Core.Path.{sym, ap, ◌∙◌}
use Rattle.std.proofs.lemmas.Result.{err_from_is_err_and}
use Rattle.language.specs.Table.{cell_for}
use Rattle.line_values.specs.Inside.Line.{line_from}
use Rattle.line_values.proofs.Timing.{number_read, number_refused, byte_nothing, byte_number}
use Rattle.line_values.proofs.times.wait_byte.Goals as goal

pub returns-then-argument-eq0 : goal.returns-then-argument-eq0
unfolding line_from cell_for
returns-then-argument-eq0 c = ap line_from (sym (byte_nothing _ c.if-argument-eq0.true))

pub returns-in_err-count : goal.returns-in_err-count
unfolding line_from
returns-in_err-count c =
    let p = err_from_is_err_and c.from_residual.result c.from_residual.ensures.1 in
    rw (p.1, p.2) (ap line_from (sym (byte_number _ c.if-argument-eq0.false ∙ number_refused _ _ _ (sym c.in_err-count.was ∙ c.whole_number.ensures))))

pub returns : goal.returns
unfolding line_from cell_for
returns c = ap line_from (sym (byte_number _ c.if-argument-eq0.false ∙ number_read _ _ _ (sym c.in_ok-count.was ∙ c.whole_number.ensures)))
