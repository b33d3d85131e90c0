-- `events::receiving::awaited_data` meets its contract. Assumes nothing.
use lib.ListN.{length}
use mathlib.Core.Path.{◌≡◌, ap, ◌∙◌}
use Rattle.events.proofs.DataCases.{part_is, awaited_length}
use borrow.Author.Rules.{rules}
use Rattle.events.proofs.receiving.awaited_data.Goals as goal

pub returns : goal.returns
returns c =
    let a = c.args in
    let n : length a.pool.now ≡ 1024 = search rules in
    let e = part_is a.pool.now a.m c.from-from.ensures c.from.ensures in
    (e, ap length e ∙ awaited_length a.pool.now a.m n c.requires)
