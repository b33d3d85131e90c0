-- `accepted::cells_fit::data_right` meets its contract. Assumes nothing.
use mathlib.Core.Path.{sym, ◌∙◌}
use mathlib.Core.Bool.{true≢false}
use borrow.Author.Tests.{le-leb, lt-leb}
use Rattle.language.proofs.Bytes.{are_bytes}
use Rattle.accepted.proofs.Data.{data_long, data_hex, data_short, data_text_lem}
use Rattle.accepted.proofs.cells_fit.data_right.Goals as goal
use Rattle.accepted.proofs.cells_fit.data_right.Goals.{then-data-room-2, else-data-room-2}

pub returns-then-last_in_one : goal.returns-then-last_in_one
returns-then-last_in_one c =
    let bytes = are_bytes c.args.«data».now (λ i. (c.type_inv.«data» i).fits) in
    c.if-last_in_one.true
    ∙ elim c.if-data-room-2.branch [
      | then-data-room-2 w ↦ data_hex _ _ bytes w.if-data-room-2.true
      | else-data-room-2 w ↦ data_short _ _ bytes w.last_in_one.ensures w.if-data-room-2.false (sym w.value-is ∙ c.if-last_in_one.true)
    ]

pub returns-else-last_in_one : goal.returns-else-last_in_one
returns-else-last_in_one c =
    let bytes = are_bytes c.args.«data».now (λ i. (c.type_inv.«data» i).fits) in
    elim c.if-data-room-2.branch [
      | then-data-room-2 w ↦ absurd (true≢false (sym (w.value-is ∙ le-leb _ _ w.if-data-room-2.true) ∙ c.if-last_in_one.false))
      | else-data-room-2 w ↦
          c.in_line.ensures ∙ data_text_lem _ _ bytes w.last_in_one.ensures w.if-data-room-2.false (sym w.value-is ∙ c.if-last_in_one.false) c.if-data-room.true
    ]

pub returns-else-data-room : goal.returns-else-data-room
returns-else-data-room c =
    lt-leb _ _ c.if-data-room.false ∙ data_long _ _ (are_bytes c.args.«data».now (λ i. (c.type_inv.«data» i).fits)) c.if-data-room.false
