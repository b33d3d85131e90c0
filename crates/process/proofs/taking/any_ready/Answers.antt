-- `process::taking::any_ready` meets its contract. Assumes nothing.
use mathlib.Core.Path.{◌∙◌}
use borrow.Author.Rules.{rules}
use Rattle.std.proofs.Common.{tests}
use Rattle.std.proofs.lemmas.Iterator.{YieldsList-from_slice}
use Rattle.std.proofs.lemmas.Iterator.Search.{any_from_yields_List}
use Rattle.process.specs.Waiting.{ready}
use Rattle.process.proofs.Loops.{any_is}
use Rattle.process.proofs.taking.any_ready.Goals as goal

pub returns : goal.returns
returns c =
    let ps = c.args.ps in
    any_from_yields_List ready _ _ _ c.any.ensures.ran (YieldsList-from_slice ps cc) (λ x b q k. search (rules, tests)) ∙ any_is ready ps
