-- `runner::starting::all_started` meets its contract: each place holds the process of its number. Assumes nothing.
use Rattle.std.proofs.Common.{ap, ◌∙◌, arith}
use Rattle.std.proofs.Math.ListN.{length-set}
use Rattle.runner.specs.Draining.{nobody}
use Rattle.runner.specs.Starting.{started}
use Rattle.runner.proofs.Started.{each_started, started_more}
use Rattle.runner.proofs.starting.all_started.Goals as goal

pub loop-i-preserved : goal.loop-i-preserved
loop-i-preserved c =
    let l = c.loop-i in (
      simp length-set l.invariant.0,
      started_more c.args.heads nobody _ l.all l.i (omega (arith, l.invariant.0)) c.started_at.ensures l.invariant.1,
    )

pub returns : goal.returns
returns c =
    let l = c.loop-i in
    each_started c.args.heads nobody 8 0 l.all l.invariant.0
    (λ k h. l.invariant.1 k (omega (arith, h)) ∙ ap (started c.args.heads) (omega arith))
