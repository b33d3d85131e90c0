-- `all_plain` meets its contract. Assumes nothing.
use Prim.Native.Nat.{ℕ}
use mathlib.Core.Path.{◌∙◌}
use mathlib.Core.Bool.{◌&&◌}
use borrow.Author.Rules.{rules}
use borrow.Author.Tests.{tests}
use lib.Dec.{leb}
use Rattle.std.proofs.lemmas.Iterator.{YieldsList-from_slice}
use Rattle.std.proofs.lemmas.Iterator.Search.{all_from_yields_List}
use Rattle.lister.proofs.Plain.{plain_all}
use Rattle.lister.proofs.hex_or_text.all_plain.Goals as goal

pub returns : goal.returns
returns c =
    let xs = c.args.text.now in
    all_from_yields_List (λ (b : ℕ). leb 32 b && leb b 126) _ _ _ c.all.ensures.ran (YieldsList-from_slice xs cc) (λ x b q k. search (rules, tests))
    ∙ plain_all xs
