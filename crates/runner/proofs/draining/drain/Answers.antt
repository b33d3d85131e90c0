-- `runner::draining::drain` meets its contract: the first process that is ready is the lowest. Assumes nothing.
use Rattle.std.proofs.Common.{◌≡◌, ◌∙◌, ap, ℕ, true, ltb, length, get_or, arith}
use Rattle.std.proofs.lemmas.Grind.{common_steps}
use Rattle.runner.specs.Draining.{drained, buffer_after, counts_after, does, writes, state_after, lowest, turn_of, nobody}
use Rattle.runner.specs.Inside.Draining.{idled}
use Rattle.runner.specs.Inside.Turns.{turned, state_turned, buffer_turned, counts_turned}
use Rattle.runner.proofs.Lowest.{lowest_position, answered, said_is}
use Rattle.runner.proofs.draining.drain.Goals as goal

pub returns-in_default : goal.returns-in_default
unfolding drained buffer_after counts_after does writes state_after turned state_turned buffer_turned counts_turned idled
returns-in_default c = grind (arith, common_steps, lowest_position)

pub returns : goal.returns
unfolding drained buffer_after counts_after does writes state_after turned state_turned buffer_turned counts_turned answered
returns c =
    let said = said_is c.take_turn.result c.unwrap_or_else-outcome.ensures in
    let found : c.in-Some.i ≡ lowest c.args.s.processes = grind (arith, common_steps, lowest_position) in
    let one : ltb (lowest c.args.s.processes) 8 ≡ true = grind (arith, common_steps, lowest_position) in
    let o : c.unwrap_or_else-outcome.result ≡ answered (turned c.args.cells.now c.args.pool.now c.args.s c.args.counts.now (turn_of c.args.s) (length c.args.out.now)) = said ∙ ap answered (c.take_turn.ensures.0 ∙ ap (λ (i : ℕ). turned c.args.cells.now c.args.pool.now c.args.s c.args.counts.now (get_or c.args.s.processes i nobody) (length c.args.out.now)) found) in
    (grind (arith, o, found, one), grind (arith, found, one), grind (arith, found, one))
