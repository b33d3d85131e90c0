-- `lister::text::two_digits` meets its contract. Assumes nothing.
use Rattle.lister.proofs.Printing.{printed_is, room_is}
use Rattle.lister.proofs.Scratch.{two_few, some, inside, enough, first_bytes_lem}
use Rattle.lister.proofs.text.two_digits.Goals as goal

pub unwrap-count-requires : goal.unwrap-count-requires
unwrap-count-requires c = some _ _ c.put_two_digits.ensures.0 (two_few c.args.n)

pub slice_bounds-put-end : goal.slice_bounds-put-end
slice_bounds-put-end c = enough _ _ c.put_two_digits.ensures.0 (two_few c.args.n) c.unwrap-count.ensures c.put_two_digits.ensures.1

pub slice_bounds-digits-end : goal.slice_bounds-digits-end
slice_bounds-digits-end c = inside _ _ c.put_two_digits.ensures.0 (two_few c.args.n) c.unwrap-count.ensures c.put_two_digits.ensures.1

pub put-requires : goal.put-requires
put-requires c = room_is (first_bytes_lem _ _ c.put_two_digits.ensures.0 (two_few c.args.n) c.unwrap-count.ensures c.put_two_digits.ensures.1) c.requires

pub returns : goal.returns
returns c = printed_is (first_bytes_lem _ _ c.put_two_digits.ensures.0 (two_few c.args.n) c.unwrap-count.ensures c.put_two_digits.ensures.1) c.put.ensures
