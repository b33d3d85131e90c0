-- `lister::text::hex` meets its contract. Assumes nothing.
use native.Mathlib.Omega.{arith}
use Rattle.writer.proofs.Hexes.{hex_length}
use Rattle.lister.proofs.Printing.{printed_is, room_is}
use Rattle.lister.proofs.Scratch.{some, inside, enough, first_bytes_lem}
use Rattle.lister.proofs.text.hex.Goals as goal

pub unwrap-count-requires : goal.unwrap-count-requires
unwrap-count-requires c = some _ _ c.put_hex.ensures.0 (omega (arith, hex_length c.args.bytes.now, c.requires.0))

pub slice_bounds-put-end : goal.slice_bounds-put-end
slice_bounds-put-end c = enough _ _ c.put_hex.ensures.0 (omega (arith, hex_length c.args.bytes.now, c.requires.0)) c.unwrap-count.ensures c.put_hex.ensures.1

pub slice_bounds-digits-end : goal.slice_bounds-digits-end
slice_bounds-digits-end c = inside _ _ c.put_hex.ensures.0 (omega (arith, hex_length c.args.bytes.now, c.requires.0)) c.unwrap-count.ensures c.put_hex.ensures.1

pub put-requires : goal.put-requires
put-requires c = room_is (first_bytes_lem _ _ c.put_hex.ensures.0 (omega (arith, hex_length c.args.bytes.now, c.requires.0)) c.unwrap-count.ensures c.put_hex.ensures.1) c.requires.1

pub returns : goal.returns
returns c = printed_is (first_bytes_lem _ _ c.put_hex.ensures.0 (omega (arith, hex_length c.args.bytes.now, c.requires.0)) c.unwrap-count.ensures c.put_hex.ensures.1) c.put.ensures
