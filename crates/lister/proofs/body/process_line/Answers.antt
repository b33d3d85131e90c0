-- `lister::body::process_line` meets its contract. Assumes nothing.
use Rattle.language.specs.Listing.{item_line, item_lines, with_line_ends}
use Rattle.lister.specs.Inside.Printed.{printed_items}
use Rattle.lister.proofs.body.process_line.Goals as goal

pub put-requires : goal.put-requires
unfolding printed_items item_lines item_line with_line_ends
put-requires c = c.requires

pub returns : goal.returns
unfolding printed_items item_lines item_line with_line_ends
returns c = c.put.ensures
