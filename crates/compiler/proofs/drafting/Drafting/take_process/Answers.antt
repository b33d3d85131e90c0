-- `take_process` meets its contract: each way on is a law of `Beginning`. Assumes nothing.
use Rattle.std.proofs.Common.{sym, ◌∙◌}
use Rattle.compiler.proofs.Beginning.{open_stop, process_next, process_first}
use Rattle.compiler.proofs.drafting.Drafting.take_process.Goals as goal

pub returns-in-Some : goal.returns-in-Some
returns-in-Some c = open_stop _ _ _ _ (λ st h. sym c.in-Some.is ∙ c.innermost.ensures st h)

pub returns-then-self : goal.returns-then-self
returns-then-self c = process_next _ _ (λ st h. sym c.in_default.is ∙ c.innermost.ensures st h) _ _ c.if-self.true c.next_process.ensures

pub returns : goal.returns
returns c = process_first _ _ (λ st h. sym c.in_default.is ∙ c.innermost.ensures st h) c.if-self.false
