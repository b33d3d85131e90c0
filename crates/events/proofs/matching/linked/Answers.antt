-- `events::matching::linked` meets its contract. Assumes nothing.
use Rattle.events.proofs.Kept.{cleared}
use Rattle.events.proofs.matching.linked.Goals as goal

pub make_links-requires : goal.make_links-requires
make_links-requires c = (c.requires.0, c.requires.1, c.requires.1, cleared c.args.want.now 1024)

pub returns : goal.returns
returns c = c.make_links.ensures.0
