-- WHAT RUNS IS THE SCRIPT. Demand 2, of running: "Compiling and running agree with the script reference .. as read in document 01." Assumes nothing:
-- these are definitions.
use Rattle.std.specs.Prelude.{◌≡◌, List, [], ◌∷◌, ℕ}
use Rattle.language.specs.declared.Table.{Table}
use Rattle.language.specs.Script.{Script}
use Rattle.language.specs.Draft.{Result, accepted, refused}
use Rattle.language.specs.Answer.{script_from}
use Rattle.accepted.specs.Accepted.{table_right}
use Rattle.runner.specs.Calls.{Call, start, Reply}
use Rattle.runner.specs.Calls as runner
use Rattle.running.specs.Running as running

-- a text says a script, and whatever calls follow a start, refused ones among them, whatever the box held before, the runner with this table answers
-- them as the script does: the same refusals, the same outcomes, the same bytes
pub record RunsScript (text : List ℕ) (t : Table) : Type 0 where
  pub script : Script
  pub said : script_from text ≡ accepted script
  pub answers : (b : runner.Box) (y : running.Box) (qs : List Call) → runner.replies table_right t b (start ∷ qs) ≡ running.replies script y (start ∷ qs)

-- the replies of the script that a text says, to a start and some calls; a text that is refused says none
abbrev pub replies_of : Result → running.Box → List Call → List Reply
replies_of (accepted s) y qs = running.replies s y (start ∷ qs)
replies_of (refused f row column) y qs = []
