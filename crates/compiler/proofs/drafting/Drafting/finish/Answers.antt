-- `finish` meets its contract: each way on is a law of `Ending`. Assumes nothing.
use Rattle.std.proofs.Common.{Err, sym, ap, ◌∙◌}
use Rattle.compiler.proofs.Ending.{open_end, largest_end, over_end}
use Rattle.compiler.proofs.drafting.Drafting.finish.Goals as goal

pub returns-in-Some : goal.returns-in-Some
returns-in-Some c = λ st i h. rw c.at.ensures (open_end i h _ (sym c.in-Some.is ∙ c.innermost.ensures st h))

pub unreachable-requires : goal.unreachable-requires
unreachable-requires c = c.requires.1 (λ st h. sym c.in_default.is ∙ c.innermost.ensures st h) (sym c.largest.ensures.value ∙ c.in-Err-Broken.is ∙ ap Err c.in-Err-Broken.field-0-is)

pub returns-in-Ok : goal.returns-in-Ok
returns-in-Ok c = λ st i h. largest_end i h (sym c.in_default.is ∙ c.innermost.ensures st h) (sym c.largest.ensures.value ∙ c.in-Ok.is)

pub returns-in-Err-Over : goal.returns-in-Err-Over
returns-in-Err-Over c = λ st i h. rw c.at-in-Err-Over.ensures (over_end i h (sym c.in_default.is ∙ c.innermost.ensures st h) (sym c.largest.ensures.value ∙ c.in-Err-Over.is ∙ ap Err c.in-Err-Over.field-0-is))
