-- Each way on is a case of the definition. Assumes nothing.
use Rattle.std.proofs.Common.{arith}
use Rattle.std.proofs.lemmas.Bool.Decides.{nat_tests}
use Rattle.language.specs.Meaning.{is_sign}
use Rattle.language.proofs.signs.is_sign.Goals as goal

pub returns-in_default : goal.returns-in_default
unfolding is_sign
returns-in_default c = grind (arith, nat_tests)

pub returns-in_default-2 : goal.returns-in_default-2
unfolding is_sign
returns-in_default-2 c = grind (arith, nat_tests)

pub returns-in_default-3 : goal.returns-in_default-3
unfolding is_sign
returns-in_default-3 c = grind (arith, nat_tests)

pub returns-in-99 : goal.returns-in-99
unfolding is_sign
returns-in-99 c = grind (arith, nat_tests)

pub returns-in-99-2 : goal.returns-in-99-2
unfolding is_sign
returns-in-99-2 c = grind (arith, nat_tests)

pub returns-in-99-3 : goal.returns-in-99-3
unfolding is_sign
returns-in-99-3 c = grind (arith, nat_tests)
