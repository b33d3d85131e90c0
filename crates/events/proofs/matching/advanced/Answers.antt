-- `events::matching::advanced` meets its contract: a byte that goes on with the match, or comes where nothing is matched, needs no links. Assumes nothing.
use mathlib.Core.Path.{◌≡◌}
use native.Mathlib.Omega.{arith}
use lib.ListN.{length}
use borrow.Author.Rules.{rules}
use Rattle.events.proofs.Links.{advance_hit, advance_none, linked_fewer}
use Rattle.events.proofs.matching.advanced.Goals as goal

pub returns-then-want-k : goal.returns-then-want-k
returns-then-want-k c = advance_hit _ _ _ c.requires.0 c.if-want-k.true

pub returns-then-k-eq0 : goal.returns-then-k-eq0
returns-then-k-eq0 c = advance_none _ _ _ c.requires.0 c.if-want-k.false c.if-k-eq0.true

pub followed-requires : goal.followed-requires
followed-requires c =
    let p = c.requires in
    let n : length c.linked-links.result ≡ 1024 = search rules in
    (omega (arith, p.0), omega (arith, n, p.1), linked_fewer c.linked-links.ensures (omega arith))

pub returns : goal.returns
returns c = c.followed.ensures
