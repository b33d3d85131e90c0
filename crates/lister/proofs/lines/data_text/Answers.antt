-- `lister::lines::data_text` meets its contract. Assumes nothing.
use mathlib.Core.Path.{refl}
use mathlib.Core.List.{[], ◌∷◌}
use Rattle.writer.specs.Hex.{hex_text}
use Rattle.language.specs.Listing.{short_hex}
use Rattle.lister.proofs.Printing.{printed_is, printed_more, room_is, then_room, stored}
use Rattle.lister.proofs.Texts.{short_data, short_some, short_few, short_last, hex_data_lem, text_data, hex_few}
use Rattle.lister.proofs.lines.data_text.Goals as goal

pub short_hex-requires : goal.short_hex-requires
short_hex-requires c =
    let o = c.last_in_one.ensures in
    let k = c.if-last_in_one.true in (
      short_some _ _ o k,
      short_few _ _ o c.requires.0 k,
      short_last _ _ o k,
      then_room (58 ∷ []) (short_hex c.args.text.now) (room_is (short_data _ _ o k) c.requires.1) refl,
    )

pub returns-then-last_in_one : goal.returns-then-last_in_one
returns-then-last_in_one c =
    printed_is (short_data _ _ c.last_in_one.ensures c.if-last_in_one.true)
    (printed_more (stored c.store.ensures) c.short_hex.ensures)

pub hex-requires : goal.hex-requires
hex-requires c =
    let e = c.in_hex.ensures in
    let t = c.if-in_hex.true in (
      hex_few _ _ e c.requires.0 t,
      then_room (58 ∷ []) (hex_text c.args.text.now)
          (room_is (hex_data_lem _ _ c.last_in_one.ensures c.if-last_in_one.false e t) c.requires.1) refl,
    )

pub returns-then-in_hex : goal.returns-then-in_hex
returns-then-in_hex c =
    printed_is (hex_data_lem _ _ c.last_in_one.ensures c.if-last_in_one.false c.in_hex.ensures c.if-in_hex.true)
    (printed_more (stored c.store-then-in_hex.ensures) c.hex.ensures)

pub put-requires : goal.put-requires
put-requires c =
    then_room (47 ∷ []) c.args.text.now
    (room_is (text_data _ _ c.last_in_one.ensures c.if-last_in_one.false c.in_hex.ensures c.if-in_hex.false)
    c.requires.1) refl

pub returns : goal.returns
returns c =
    printed_is (text_data _ _ c.last_in_one.ensures c.if-last_in_one.false c.in_hex.ensures c.if-in_hex.false)
    (printed_more (stored c.store-2.ensures) c.put.ensures)
