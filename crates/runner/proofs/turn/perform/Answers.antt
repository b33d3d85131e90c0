-- `runner::turn::perform` meets its contract. Assumes nothing.
use Rattle.std.proofs.Common.{◌≡◌, length, ap, rules, arith}
use Rattle.std.proofs.lemmas.Grind.{common_steps}
use Rattle.runner.specs.Writing.{writes_for}
use Rattle.statement.specs.Saying.{counted_by}
use lib.Seq.{set-get_or}
use Rattle.runner.proofs.Written.{sent_fits, logged_fits, data_long}
use Rattle.runner.proofs.turn.perform.Goals as goal

pub data-requires : goal.data-requires
data-requires c = (sent_fits c.requires.0 c.in-Send.is).inside

pub data-requires-in-Log : goal.data-requires-in-Log
data-requires-in-Log c = (logged_fits c.requires.0 c.in-Log.is).inside

pub send-requires : goal.send-requires
send-requires c =
    let f = sent_fits c.requires.0 c.in-Send.is in
    let long : length c.args.pool.now ≡ 1024 = search rules in
    omega (arith, f.most, c.requires.2, ap length c.data.ensures, data_long c.args.pool.now c.in-Send.s (omega (arith, f.inside, long)))

pub log-n-requires : goal.log-n-requires
log-n-requires c = omega (arith, c.requires.2)

pub returns-in-Send : goal.returns-in-Send
unfolding writes_for counted_by
returns-in-Send c = grind (arith, common_steps, set-get_or)

pub returns-in-Log : goal.returns-in-Log
unfolding writes_for counted_by
returns-in-Log c = grind (arith, common_steps, set-get_or)

pub returns-in_default : goal.returns-in_default
unfolding writes_for counted_by
returns-in_default c = grind (arith, common_steps, set-get_or)
