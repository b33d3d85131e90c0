-- `nest` meets its contract, cell by cell. Assumes nothing.
use Rattle.compiler.proofs.Asking.{other_stays}
use Rattle.compiler.proofs.Nesting.{stays_on}
use Rattle.compiler.proofs.drafting.Drafting.nest.Goals as goal

pub returns-in_default : goal.returns-in_default
returns-in_default c = rw (other_stays c.args.cell c.in_default.not-Loop c.in_default.not-End) (stays_on _ _)
