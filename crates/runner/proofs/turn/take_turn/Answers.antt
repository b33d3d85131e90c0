-- `runner::turn::take_turn` meets its contract. Assumes nothing.
use Rattle.std.proofs.Common.{arith}
use Rattle.std.proofs.lemmas.Grind.{common_steps}
use Rattle.runner.proofs.Written.{of_word}
use Rattle.runner.proofs.Turning.{found_inside}
use Rattle.runner.proofs.turn.take_turn.Goals as goal

pub perform-outcome-requires : goal.perform-outcome-requires
perform-outcome-requires c = (of_word _ c.step-stepped.ensures.1, grind (arith, common_steps, found_inside), omega (arith, c.if-out-lt-DRAIN.false))
