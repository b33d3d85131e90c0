-- `accepted::cells_fit::cells_right` meets its contract. Assumes nothing.
use mathlib.Core.Path.{sym, ◌∙◌}
use mathlib.Core.Bool.{true≢false}
use borrow.Author.Tests.{lt-leb}
use Rattle.accepted.proofs.AllZero.{zeros_are}
use Rattle.accepted.proofs.Fitting.{other_end, too_much, cells_behind, cells_clean}
use Rattle.accepted.proofs.cells_fit.cells_right.Goals as goal
use Rattle.accepted.proofs.cells_fit.cells_right.Goals.{then-used-le-DATA, else-used-le-DATA, then-eq, else-eq}

pub returns-then-all_from : goal.returns-then-all_from
returns-then-all_from c =
    elim c.if-eq.branch [
      | then-eq w ↦ elim c.if-used-le-DATA.branch [
        | then-used-le-DATA v ↦
            cells_clean _ _ _ _ v.data_end.ensures v.eq.ensures (sym v.value-is ∙ w.if-eq.true) (zeros_are _ w.all_from.ensures) v.if-used-le-DATA.true
            (sym w.value-is ∙ c.if-all_from.true) (zeros_are _ c.all_from-then-all_from.ensures)
        | else-used-le-DATA v ↦ absurd (true≢false (sym w.if-eq.true ∙ (v.value-is ∙ lt-leb _ _ v.if-used-le-DATA.false)))
      ]
      | else-eq w ↦ absurd (true≢false (sym c.if-all_from.true ∙ (w.value-is ∙ w.if-eq.false)))
    ]

pub returns-else-all_from : goal.returns-else-all_from
returns-else-all_from c =
    c.if-all_from.false
    ∙ elim c.if-used-le-DATA.branch [
      | then-used-le-DATA v ↦ elim c.if-eq.branch [
        | then-eq w ↦
            cells_behind _ _ _ _ v.data_end.ensures v.eq.ensures (sym v.value-is ∙ w.if-eq.true) (zeros_are _ w.all_from.ensures) (sym w.value-is ∙ c.if-all_from.false)
        | else-eq w ↦ other_end _ _ _ _ v.data_end.ensures v.eq.ensures (sym v.value-is ∙ w.if-eq.false)
      ]
      | else-used-le-DATA v ↦ too_much _ _ _ _ v.if-used-le-DATA.false
    ]
