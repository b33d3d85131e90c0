-- `accepted::is_accepted` meets its contract: the tests decide. Assumes nothing.
use mathlib.Core.Path.{sym, ◌∙◌}
use mathlib.Core.Bool.{true≢false}
use mir.Syntax.{w8}
use mir.Val.{Fits}
use lib.ListN.{get_or}
use borrow.Author.Tests.{leb-true, leb-false}
use Rattle.language.specs.Limits.{lines_limit}
use Rattle.language.proofs.Bytes.{are_bytes}
use Rattle.accepted.proofs.Laying.{Typed}
use Rattle.accepted.proofs.Passing.{Bytes}
use Rattle.accepted.proofs.Accepting.{in_use_is, some_process, in_use_few, not_ends, not_cells, not_settings, not_lines, as_measured}
use borrow.Author.Rules.{rules}
use Rattle.accepted.proofs.is_accepted.Goals as goal
use Rattle.accepted.proofs.is_accepted.Goals.{Start, then-cells_right, else-cells_right, then-settings_fit, else-settings_fit}

-- the table that is lent has the values of its types
typed : (b : Start) → Typed (record { cells = b.args.cells.now; pool = b.args.pool.now; heads = b.args.heads })
typed b = record { cells = search rules; pool = search rules; ends = search rules; omit = search rules; extension = search rules }

bytes : (s : Start) → Bytes s.args.heads
bytes s = record { encode = search rules; omit = are_bytes s.args.heads.omit (λ i. let f : Fits w8 (get_or s.args.heads.omit i 0) = search rules in f.fits) }

pub lines-requires : goal.lines-requires
lines-requires c =
    let e = c.cells_in_use.ensures in
    let to = c.in-Some.is in
    (some_process _ e to, in_use_is _ e to, in_use_few _ e to)

pub returns-in_default : goal.returns-in_default
returns-in_default c =
    let s = (goal.at.returns-in_default c).Start in
    not_ends _ (typed s) (bytes s) c.cells_in_use.ensures c.in_default.is

pub returns-then-lines-le-LINES : goal.returns-then-lines-le-LINES
returns-then-lines-le-LINES c =
    let s = (goal.at.returns-then-lines-le-LINES c).Start in
    elim c.if-settings_fit.branch [
      | then-settings_fit w ↦ elim c.if-cells_right.branch [
        | then-cells_right v ↦
            as_measured _ (typed s) (bytes s) c.cells_in_use.ensures c.in-Some.is (rw c.from.ensures at c.cells_right.ensures) v.if-cells_right.true
            v.settings_fit.ensures (sym v.value-is ∙ w.if-settings_fit.true) w.lines.ensures
            (leb-true w.lines.result lines_limit (sym w.value-is ∙ c.if-lines-le-LINES.true)) c.largest.ensures.value c.is_ok.ensures.value
        | else-cells_right v ↦ absurd (true≢false (sym w.if-settings_fit.true ∙ (v.value-is ∙ v.if-cells_right.false)))
      ]
      | else-settings_fit w ↦ absurd (true≢false (sym c.if-lines-le-LINES.true ∙ (w.value-is ∙ w.if-settings_fit.false)))
    ]

pub returns-else-lines-le-LINES : goal.returns-else-lines-le-LINES
returns-else-lines-le-LINES c =
    let s = (goal.at.returns-else-lines-le-LINES c).Start in
    c.if-lines-le-LINES.false
    ∙ elim c.if-cells_right.branch [
      | then-cells_right v ↦ elim c.if-settings_fit.branch [
        | then-settings_fit w ↦
            not_lines _ (typed s) (bytes s) c.cells_in_use.ensures c.in-Some.is (rw c.from.ensures at c.cells_right.ensures) v.if-cells_right.true
            v.settings_fit.ensures (sym v.value-is ∙ w.if-settings_fit.true) w.lines.ensures
            (leb-false w.lines.result lines_limit (sym w.value-is ∙ c.if-lines-le-LINES.false))
        | else-settings_fit w ↦
            not_settings _ (typed s) (bytes s) c.cells_in_use.ensures c.in-Some.is (rw c.from.ensures at c.cells_right.ensures) v.if-cells_right.true
            v.settings_fit.ensures (sym v.value-is ∙ w.if-settings_fit.false)
      ]
      | else-cells_right v ↦ not_cells _ (typed s) (bytes s) c.cells_in_use.ensures c.in-Some.is (rw c.from.ensures at c.cells_right.ensures) v.if-cells_right.false
    ]
