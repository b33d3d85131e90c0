-- `wait_time` meets its contract: each arm is a case of `time_by`. Assumes nothing.
use mathlib.Core.Path.{sym, ap, ◌∙◌}
use Rattle.line_values.specs.Inside.Line.{line_from}
use Rattle.line_values.proofs.Timing.{time_small, time_within, time_number, no_number, bad_number}
use borrow.Author.Rules.{rules}
use Rattle.line_values.proofs.times.wait_time.Goals as goal

pub slice_bounds-time_in-count : goal.slice_bounds-time_in-count
slice_bounds-time_in-count c = time_within _ (sym c.in-Ok.is ∙ c.number.ensures)

pub slice_bounds-time_in-start : goal.slice_bounds-time_in-start
slice_bounds-time_in-start c =
    let h = time_within _ (sym c.in-Ok.is ∙ c.number.ensures) in
    search rules

pub time_in-requires : goal.time_in-requires
time_in-requires c = time_small _ (sym c.in-Ok.is ∙ c.number.ensures)

pub returns-in-Ok : goal.returns-in-Ok
returns-in-Ok c = c.time_in.ensures ∙ ap line_from (sym (time_number _ (sym c.in-Ok.is ∙ c.number.ensures)))

pub returns-in-Err-eq0 : goal.returns-in-Err-eq0
returns-in-Err-eq0 c =
    c.time_in-in-Err-eq0.ensures
    ∙ ap line_from (sym (no_number _ (sym c.in-Err-eq0.is ∙ c.number.ensures) c.in-Err-eq0.field-0-test))

pub returns-in-Err : goal.returns-in-Err
unfolding line_from
returns-in-Err c = ap line_from (sym (bad_number _ (sym c.in-Err.is ∙ c.number.ensures) c.in-Err.field-0-test.1))
