-- `next_feed` meets its contract: each way on is a law of `Texts`. Assumes nothing.
use Rattle.std.proofs.Common.{sym, ◌∙◌}
use Rattle.compiler.proofs.Texts.{rest, feed_at, no_feed_left}
use Rattle.compiler.proofs.feeds.next_feed.Goals as goal

pub returns-in-Some : goal.returns-in-Some
returns-in-Some c = feed_at _ _ _ c.requires (rw rest at (sym c.first_feed.ensures ∙ c.in-Some.is))

pub returns-in-None : goal.returns-in-None
returns-in-None c = no_feed_left _ _ c.requires (rw rest at (sym c.first_feed.ensures ∙ c.in-None.is))
