-- `loop_count` meets its contract: each `return` is a case of `loop_of`. Assumes nothing.
use mathlib.Core.Path.{sym, ap, ◌∙◌}
use Rattle.std.proofs.lemmas.Result.{err_from_is_err_and}
use Rattle.language.specs.Table.{cell_for}
use Rattle.line_values.specs.Inside.Line.{line_from}
use Rattle.line_values.proofs.Timing.{number_read, number_refused, loop_nothing, loop_ever_lem, loop_number}
use Rattle.line_values.proofs.times.loop_count.Goals.{then-argument-eq0-via-then-argument-eq0, then-argument-eq0-via-else-argument-eq0+then-is_name}
use Rattle.line_values.proofs.times.loop_count.Goals as goal

pub returns-then-argument-eq0 : goal.returns-then-argument-eq0
unfolding line_from cell_for
returns-then-argument-eq0 c =
    elim c.then-argument-eq0.branch [
      | then-argument-eq0-via-then-argument-eq0 w ↦ ap line_from (sym (loop_nothing _ w.if-argument-eq0.true))
      | then-argument-eq0-via-else-argument-eq0+then-is_name w ↦ ap line_from (sym (loop_ever_lem _ (sym w.is_name.ensures ∙ w.if-is_name.true)))
    ]

pub returns-in_err-times : goal.returns-in_err-times
unfolding line_from
returns-in_err-times c =
    let p = err_from_is_err_and c.from_residual.result c.from_residual.ensures.1 in
    rw (p.1, p.2) (ap line_from (sym (loop_number _ c.if-argument-eq0.false (sym c.is_name.ensures ∙ c.if-is_name.false) ∙ number_refused _ _ _ (sym c.in_err-times.was ∙ c.whole_number.ensures))))

pub returns : goal.returns
unfolding line_from cell_for
returns c = ap line_from (sym (loop_number _ c.if-argument-eq0.false (sym c.is_name.ensures ∙ c.if-is_name.false) ∙ number_read _ _ _ (sym c.in_ok-times.was ∙ c.whole_number.ensures)))
