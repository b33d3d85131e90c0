-- `accepted::settings::letters` meets its contract. Assumes nothing.
use Rattle.std.specs.Prelude.{ℕ, eqb}
use mathlib.Core.Path.{◌∙◌}
use borrow.Author.Rules.{rules}
use borrow.Author.Tests.{tests}
use Rattle.std.proofs.lemmas.Iterator.{YieldsList-from_slice}
use Rattle.std.proofs.lemmas.Iterator.Search.{position_from_yields_List}
use Rattle.accepted.proofs.Extension.{letters_position}
use Rattle.accepted.proofs.settings.letters.Goals as goal

pub returns : goal.returns
returns c =
    let xs = c.args.extension.now in
    let p = position_from_yields_List (λ (b : ℕ). eqb b 0) _ _ c.position.result c.position.ensures.ran (YieldsList-from_slice xs cc) (λ x b q k. search (rules, tests)) in
    c.unwrap_or.ensures ∙ letters_position xs p
