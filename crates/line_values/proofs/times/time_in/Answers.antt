-- `time_in` meets its contract: each `return` is a case of `time_in`. Assumes nothing.
use mathlib.Core.Path.{sym, ap, ◌∙◌}
use Rattle.language.specs.Table.{cell_for}
use Rattle.line_values.specs.Inside.Line.{line_from}
use Rattle.line_values.proofs.Timing.{no_unit, in_ms, in_s, in_m, too_many_m, bad_unit}
use Rattle.line_values.proofs.times.time_in.Goals.{then-unit-eq0-via-then-unit-eq0, then-unit-eq0-via-else-unit-eq0+then-is_name-2, else-is_name-3-via-then-is_name-3+else-v-le999, else-is_name-3-via-else-is_name-3}
use Rattle.line_values.proofs.times.time_in.Goals as goal

pub returns-then-is_name : goal.returns-then-is_name
unfolding line_from cell_for
returns-then-is_name c = ap line_from (sym (in_ms _ _ (sym c.is_name.ensures ∙ c.if-is_name.true)))

pub returns-then-unit-eq0 : goal.returns-then-unit-eq0
unfolding line_from cell_for
returns-then-unit-eq0 c =
    elim c.then-unit-eq0.branch [
      | then-unit-eq0-via-then-unit-eq0 w ↦ ap line_from (sym (no_unit _ _ w.if-unit-eq0.true))
      | then-unit-eq0-via-else-unit-eq0+then-is_name-2 w ↦ ap line_from (sym (in_s _ _ (sym w.is_name-else-unit-eq0.ensures ∙ w.if-is_name-2.true)))
    ]

pub returns-then-v-le999 : goal.returns-then-v-le999
unfolding line_from cell_for
returns-then-v-le999 c = ap line_from (sym (in_m _ _ (sym c.is_name-2.ensures ∙ c.if-is_name-3.true) c.if-v-le999.true))

pub returns : goal.returns
unfolding line_from cell_for
returns c =
    elim c.else-is_name-3.branch [
      | else-is_name-3-via-then-is_name-3+else-v-le999 w ↦ ap line_from (sym (too_many_m _ _ (sym c.is_name-2.ensures ∙ w.if-is_name-3.true) w.if-v-le999.false))
      | else-is_name-3-via-else-is_name-3 w ↦
          ap line_from
          (sym (bad_unit _ _ c.if-unit-eq0.false (sym c.is_name.ensures ∙ c.if-is_name.false) (sym c.is_name-else-unit-eq0.ensures ∙ c.if-is_name-2.false)
          (sym c.is_name-2.ensures ∙ w.if-is_name-3.false)))
    ]
