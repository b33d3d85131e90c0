-- `lister::text::number` meets its contract. Assumes nothing.
use native.Mathlib.Omega.{arith}
use Rattle.writer.proofs.Decimals.{decimal_few}
use Rattle.lister.proofs.Printing.{printed_is, room_is}
use Rattle.lister.proofs.Scratch.{some, inside, enough, first_bytes_lem}
use Rattle.lister.proofs.text.number.Goals as goal

pub unwrap-count-requires : goal.unwrap-count-requires
unwrap-count-requires c = some _ _ c.put_decimal.ensures.0 (decimal_few 10 c.args.n (omega arith) (omega (arith, c.ranges.n)))

pub slice_bounds-put-end : goal.slice_bounds-put-end
slice_bounds-put-end c = enough _ _ c.put_decimal.ensures.0 (decimal_few 10 c.args.n (omega arith) (omega (arith, c.ranges.n))) c.unwrap-count.ensures c.put_decimal.ensures.1

pub slice_bounds-digits-end : goal.slice_bounds-digits-end
slice_bounds-digits-end c = inside _ _ c.put_decimal.ensures.0 (decimal_few 10 c.args.n (omega arith) (omega (arith, c.ranges.n))) c.unwrap-count.ensures c.put_decimal.ensures.1

pub put-requires : goal.put-requires
put-requires c = room_is (first_bytes_lem _ _ c.put_decimal.ensures.0 (decimal_few 10 c.args.n (omega arith) (omega (arith, c.ranges.n))) c.unwrap-count.ensures c.put_decimal.ensures.1) c.requires

pub returns : goal.returns
returns c = printed_is (first_bytes_lem _ _ c.put_decimal.ensures.0 (decimal_few 10 c.args.n (omega arith) (omega (arith, c.ranges.n))) c.unwrap-count.ensures c.put_decimal.ensures.1) c.put.ensures
