-- `accepted::settings::all_capital` meets its contract. Assumes nothing.
use mathlib.Core.Path.{◌∙◌}
use borrow.Author.Rules.{rules}
use borrow.Author.Tests.{tests}
use Rattle.std.proofs.lemmas.Iterator.{YieldsList-from_slice}
use Rattle.std.proofs.lemmas.Iterator.Search.{all_from_yields_List}
use Rattle.language.specs.Meaning.{is_capital}
use Rattle.accepted.proofs.Extension.{all_is}
use Rattle.accepted.proofs.settings.all_capital.Goals as goal

pub returns : goal.returns
returns c =
    let xs = c.args.text.now in
    all_from_yields_List is_capital _ _ _ c.all.ensures.ran (YieldsList-from_slice xs cc) (λ x b q k. search (rules, tests))
    ∙ all_is is_capital xs
