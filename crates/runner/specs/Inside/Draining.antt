-- The drain as the code goes through it. Nothing here has to be believed: it is what a private function answers.
use Rattle.std.specs.Prelude.{ℕ, true}
use Rattle.process.specs.declared.State.{State}
use Rattle.statement.specs.declared.outcome.Outcome.TheVariants.{Quiet}
use Rattle.runner.specs.declared.Drained.{Drained}
use Rattle.runner.specs.Draining.{unaltered, refusal}
use Rattle.runner.specs.Turns.{tested}

-- the answer where no process is ready
unfoldable pub idled : State → ℕ → Drained
idled s room = tested true room (refusal s) (unaltered s Quiet)
