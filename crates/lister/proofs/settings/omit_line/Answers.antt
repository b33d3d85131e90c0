-- `lister::settings::omit_line` meets its contract. Assumes nothing.
use native.Mathlib.Omega.{arith}
use mathlib.Core.List.{[], ◌∷◌, ◌++◌}
use Rattle.reader.specs.Ascii.{ascii}
use Rattle.writer.specs.Hex.{hex_text}
use Rattle.lister.proofs.Printing.{printed_none, printed_is, printed_more, room_is, room_one, room_two, room_three}
use Rattle.lister.proofs.Setting.{stands, stands_not, omits_none, omits_some}
use Rattle.lister.proofs.settings.omit_line.Goals as goal

pub returns-then-omit-eq0 : goal.returns-then-omit-eq0
returns-then-omit-eq0 c =
    printed_is (stands_not (ascii "#f:OMIT :" ++ hex_text c.args.omit.now) (omits_none _ c.if-omit-eq0.true))
    printed_none

pub put-name-requires : goal.put-name-requires
put-name-requires c =
    let room = room_is (stands (ascii "#f:OMIT :" ++ hex_text c.args.omit.now)
    (omits_some _ c.if-omit-eq0.false)) c.requires.1 in
    room_one (ascii "#f:OMIT :") (hex_text c.args.omit.now) (13 ∷ 10 ∷ []) room

pub hex-next-requires : goal.hex-next-requires
hex-next-requires c =
    let room = room_is (stands (ascii "#f:OMIT :" ++ hex_text c.args.omit.now)
    (omits_some _ c.if-omit-eq0.false)) c.requires.1 in (
      omega (arith, c.requires.0),
      room_two (ascii "#f:OMIT :") (hex_text c.args.omit.now)
          (13 ∷ 10 ∷ []) room c.put-name.ensures.place,
    )

pub put-requires : goal.put-requires
put-requires c =
    let room = room_is (stands (ascii "#f:OMIT :" ++ hex_text c.args.omit.now)
    (omits_some _ c.if-omit-eq0.false)) c.requires.1 in
    room_three (ascii "#f:OMIT :") (hex_text c.args.omit.now) (13 ∷ 10 ∷ []) room
    c.put-name.ensures.place c.hex-next.ensures.place

pub returns : goal.returns
returns c =
    printed_is (stands (ascii "#f:OMIT :" ++ hex_text c.args.omit.now) (omits_some _ c.if-omit-eq0.false))
    (printed_more (printed_more c.put-name.ensures c.hex-next.ensures) c.put.ensures)
