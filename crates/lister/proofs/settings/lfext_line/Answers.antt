-- `lister::settings::lfext_line` meets its contract. Assumes nothing.
use mathlib.Core.Path.{sym, ◌∙◌}
use mathlib.Core.List.{[], ◌∷◌, ◌++◌}
use lib.Seq.{length-take-le}
use Rattle.reader.specs.Ascii.{ascii}
use Rattle.language.specs.Table.{letters_of}
use Rattle.lister.proofs.Printing.{printed_none, printed_is, printed_more, room_is, room_one, room_two, room_three}
use Rattle.lister.proofs.Setting.{stands, stands_not, letters_inside, letters_are}
use Rattle.lister.proofs.settings.lfext_line.Goals as goal

pub put-name-requires : goal.put-name-requires
put-name-requires c =
    let room = room_is (stands (ascii "#f:LFEXT " ++ letters_of c.args.extension.now)
    (sym c.other_letters.ensures ∙ c.if-other_letters.true)) c.requires in
    room_one (ascii "#f:LFEXT ") (letters_of c.args.extension.now) (13 ∷ 10 ∷ []) room

pub slice_bounds-put-end-then-other_letters : goal.slice_bounds-put-end-then-other_letters
slice_bounds-put-end-then-other_letters c = sym (length-take-le _ _ (letters_inside _ c.letters.ensures))

pub put-next-requires : goal.put-next-requires
put-next-requires c =
    let room = room_is (stands (ascii "#f:LFEXT " ++ letters_of c.args.extension.now)
    (sym c.other_letters.ensures ∙ c.if-other_letters.true)) c.requires in
    room_is (letters_are _ c.letters.ensures)
    (room_two (ascii "#f:LFEXT ") (letters_of c.args.extension.now) (13 ∷ 10 ∷ []) room c.put-name.ensures.place)

pub put-requires : goal.put-requires
put-requires c =
    let room = room_is (stands (ascii "#f:LFEXT " ++ letters_of c.args.extension.now)
    (sym c.other_letters.ensures ∙ c.if-other_letters.true)) c.requires in
    room_three (ascii "#f:LFEXT ") (letters_of c.args.extension.now) (13 ∷ 10 ∷ []) room
    c.put-name.ensures.place (printed_is (letters_are _ c.letters.ensures)
    c.put-next.ensures).place

pub returns-then-other_letters : goal.returns-then-other_letters
returns-then-other_letters c =
    printed_is (stands (ascii "#f:LFEXT " ++ letters_of c.args.extension.now)
    (sym c.other_letters.ensures ∙ c.if-other_letters.true))
    (printed_more (printed_more c.put-name.ensures (printed_is (letters_are _ c.letters.ensures)
    c.put-next.ensures)) c.put.ensures)

pub returns : goal.returns
returns c =
    printed_is (stands_not (ascii "#f:LFEXT " ++ letters_of c.args.extension.now)
    (sym c.other_letters.ensures ∙ c.if-other_letters.false)) printed_none
