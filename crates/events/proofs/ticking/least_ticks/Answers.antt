-- `events::ticking::least_ticks` meets its contract. Assumes nothing.
use mathlib.Core.Path.{◌≡◌, ap, ◌∙◌}
use borrow.Author.Rules.{rules}
use native.Mathlib.Omega.{arith}
use lib.ListN.{length}
use lib.Seq.{take_all}
use Rattle.process.specs.Waiting.{ready}
use Rattle.events.specs.Inside.Passing.{tick_taken, ticks_reach}
use Rattle.events.proofs.Reach.{none_passes}
use Rattle.events.proofs.Together.{ticks_none, ticks_more}
use Rattle.events.proofs.ticking.least_ticks.Goals as goal

pub loop-p-init : goal.loop-p-init
loop-p-init c = ticks_none c.args.most

pub ticks_until-n-requires : goal.ticks_until-n-requires
ticks_until-n-requires c =
    let ps = c.args.ps.now in
    let n : length ps ≡ 8 = search rules in
    none_passes tick_taken ready ps c.loop-p.p-index _ c.requires (omega arith)

pub loop-p-preserved : goal.loop-p-preserved
loop-p-preserved c =
    let ps = c.args.ps.now in
    let n : length ps ≡ 8 = search rules in
    ticks_more c.args.most c.loop-p.p-index ps _ (omega arith) c.loop-p.invariant c.ticks_until-n.ensures

pub returns : goal.returns
returns c =
    let ps = c.args.ps.now in
    let n : length ps ≡ 8 = search rules in
    c.loop-p.invariant ∙ ap (ticks_reach c.args.most) (take_all c.loop-p.p-index ps (omega arith))
