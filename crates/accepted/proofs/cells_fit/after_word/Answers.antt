-- `accepted::cells_fit::after_word` meets its contract, cell by cell. Assumes nothing.
use mathlib.Core.Path.{refl, ap, ◌∙◌}
use mathlib.Core.Logic.{⊎_elim}
use Rattle.language.specs.Limits.{send_room, wait_room}
use Rattle.language.specs.Right.{data_right, log_right}
use Rattle.accepted.specs.Inside.Cells.{cell_fits, bytes_of_cell}
use Rattle.accepted.proofs.CellsFit.{word_not, word_at, word_data, sent_inside, waited_inside, logged_inside}
use Rattle.accepted.proofs.Others.{dataless}
use borrow.Enum.Refused.{opened}
use Rattle.accepted.proofs.cells_fit.after_word.Goals as goal

pub data_of-requires : goal.data_of-requires
data_of-requires c = sent_inside _ c.decode.ensures c.in-Send.is

pub data_of-requires-in-WaitData : goal.data_of-requires-in-WaitData
data_of-requires-in-WaitData c = waited_inside _ c.decode.ensures c.in-WaitData.is

pub data_of-requires-in-Log : goal.data_of-requires-in-Log
data_of-requires-in-Log c = logged_inside _ c.decode.ensures c.in-Log.is

pub returns-in-Nothing : goal.returns-in-Nothing
unfolding cell_fits
returns-in-Nothing c =
    ⊎_elim (λ is. word_not _ c.decode.ensures is _ _ refl) (λ is. word_not _ c.decode.ensures is _ _ refl) c.in-Nothing.is

pub returns-in-Send : goal.returns-in-Send
unfolding cell_fits bytes_of_cell
returns-in-Send c =
    word_data _ c.decode.ensures c.in-Send.is _ _
    (rw (c.data_right.ensures ∙ ap (data_right send_room) c.data_of.ensures) at c.after.ensures)

pub returns-in-WaitData : goal.returns-in-WaitData
unfolding cell_fits bytes_of_cell
returns-in-WaitData c =
    word_data _ c.decode.ensures c.in-WaitData.is _ _
    (rw (c.data_right-in-WaitData.ensures ∙ ap (data_right wait_room) c.data_of-in-WaitData.ensures) at c.after-in-WaitData.ensures)

pub returns-in-Log : goal.returns-in-Log
unfolding cell_fits bytes_of_cell
returns-in-Log c =
    word_data _ c.decode.ensures c.in-Log.is _ _
    (rw (c.log_right.ensures ∙ ap log_right c.data_of-in-Log.ensures) at c.after-in-Log.ensures)

pub returns-in_default : goal.returns-in_default
returns-in_default c =
    let o = dataless _ _ c.decode.result (opened c.in_default.in_default-own.keys5) in
    word_at _ c.decode.ensures refl _ _ o.fits o.none
