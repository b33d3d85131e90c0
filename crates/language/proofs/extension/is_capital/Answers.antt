-- Each way on is a case of the definition. Assumes nothing.
use Rattle.std.proofs.Common.{arith}
use Rattle.std.proofs.lemmas.Bool.Decides.{nat_tests}
use Rattle.language.specs.Meaning.{is_capital}
use Rattle.language.proofs.extension.is_capital.Goals as goal

pub returns-in-48-to-57 : goal.returns-in-48-to-57
unfolding is_capital
returns-in-48-to-57 c = grind (arith, nat_tests)

pub returns-in-48-to-57-2 : goal.returns-in-48-to-57-2
unfolding is_capital
returns-in-48-to-57-2 c = grind (arith, nat_tests)

pub returns-in_default : goal.returns-in_default
unfolding is_capital
returns-in_default c = grind (arith, nat_tests)

pub returns-in_default-2 : goal.returns-in_default-2
unfolding is_capital
returns-in_default-2 c = grind (arith, nat_tests)

pub returns-in_default-3 : goal.returns-in_default-3
unfolding is_capital
returns-in_default-3 c = grind (arith, nat_tests)
