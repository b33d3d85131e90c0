-- `lister::settings::encode_line` meets its contract. Assumes nothing.
use native.Mathlib.Omega.{arith}
use mathlib.Core.List.{[], ◌∷◌}
use Rattle.reader.specs.Ascii.{ascii}
use Rattle.writer.specs.Hex.{hex_text}
use Rattle.lister.proofs.Printing.{printed_none, printed_is, printed_more, room_is, room_one, room_two, room_three}
use Rattle.lister.proofs.Setting.{encode_set, encode_unset}
use Rattle.lister.proofs.settings.encode_line.Goals as goal

pub put-name-requires : goal.put-name-requires
put-name-requires c =
    let room = room_is (encode_set c.args.encode c.if-encodes.true) c.requires in
    room_one (ascii "#f:ENCODE :") (hex_text (c.args.encode ∷ [])) (13 ∷ 10 ∷ []) room

pub hex-next-requires : goal.hex-next-requires
hex-next-requires c =
    let room = room_is (encode_set c.args.encode c.if-encodes.true) c.requires in (
      omega arith,
      room_two (ascii "#f:ENCODE :") (hex_text (c.args.encode ∷ [])) (13 ∷ 10 ∷ []) room
          c.put-name.ensures.place,
    )

pub put-requires : goal.put-requires
put-requires c =
    let room = room_is (encode_set c.args.encode c.if-encodes.true) c.requires in
    room_three (ascii "#f:ENCODE :") (hex_text (c.args.encode ∷ [])) (13 ∷ 10 ∷ []) room
    c.put-name.ensures.place c.hex-next.ensures.place

pub returns-then-encodes : goal.returns-then-encodes
returns-then-encodes c =
    printed_is (encode_set c.args.encode c.if-encodes.true)
    (printed_more (printed_more c.put-name.ensures c.hex-next.ensures) c.put.ensures)

pub returns : goal.returns
returns c = printed_is (encode_unset c.args.encode c.if-encodes.false) printed_none
