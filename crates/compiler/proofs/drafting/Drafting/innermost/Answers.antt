-- `innermost` meets its contract by a law of `Nesting`. Assumes nothing.
use Rattle.std.proofs.Common.{◌∙◌}
use Rattle.compiler.proofs.Nesting.{innermost_read}
use Rattle.compiler.proofs.drafting.Drafting.innermost.Goals as goal

pub returns : goal.returns
returns c = λ st h. c.copied.ensures ∙ c.last.ensures.value ∙ innermost_read _ c.from.ensures h
