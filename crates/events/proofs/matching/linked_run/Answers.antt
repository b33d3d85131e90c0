-- `events::matching::linked_run` meets its contract. Assumes nothing.
use mathlib.Core.Path.{◌≡◌}
use native.Mathlib.Omega.{arith}
use lib.ListN.{length}
use borrow.Author.Rules.{rules}
use Rattle.events.proofs.matching.linked_run.Goals as goal

pub through_links-requires : goal.through_links-requires
through_links-requires c =
    let p = c.requires in
    let n : length c.linked-links.result ≡ 1024 = search rules in
    (p.0, omega (arith, n, p.1), record { at = λ j some h l. c.linked-links.ensures.at j some (p.3 j h l) })

pub returns-then-kept-want : goal.returns-then-kept-want
returns-then-kept-want c = (c.through_links.ensures, c.requires.4)

pub through_links-requires-2 : goal.through_links-requires-2
through_links-requires-2 c =
    let p = c.requires in
    (p.0, search rules, record { at = λ j some h l. c.make_links.ensures.0.at j some (p.3 j h l) })

pub returns : goal.returns
returns c = (c.through_links-2.ensures, c.make_links.ensures.1)
