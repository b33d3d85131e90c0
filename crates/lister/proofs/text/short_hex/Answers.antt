-- `lister::text::short_hex` meets its contract. Assumes nothing.
use native.Mathlib.Omega.{arith}
use Rattle.lister.proofs.Printing.{printed_is, printed_more, stored}
use Rattle.lister.proofs.Texts.{short_parts, front_few, front_room, digit_room}
use Rattle.lister.proofs.text.short_hex.Goals as goal

pub hex-next-requires : goal.hex-next-requires
hex-next-requires c =
    let bytes = c.args.bytes.now in (
      front_few bytes c.requires.1,
      front_room bytes c.requires.2 c.requires.3,
    )

pub overflow_add-result : goal.overflow_add-result
overflow_add-result c = omega (arith, (digit_room c.args.bytes.now c.requires.2 c.requires.3 c.hex-next.ensures.place).fits)

pub returns : goal.returns
returns c =
    printed_is (short_parts c.args.bytes.now c.requires.2 c.capital_digit.ensures)
    (printed_more c.hex-next.ensures (stored c.store.ensures))
