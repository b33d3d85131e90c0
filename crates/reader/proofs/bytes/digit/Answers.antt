-- `digit` meets its contract: each arm is a case of `digit_of`. Assumes nothing.
use native.Mathlib.Omega.{arith}
use Rattle.reader.proofs.Digits.{some_digit, no_digit, digit_low, digit_decimal, digit_between, digit_capital, digit_above, digit_small, digit_high}
use Rattle.reader.proofs.bytes.digit.Goals as goal

pub returns-in-48-to-57 : goal.returns-in-48-to-57
returns-in-48-to-57 c = some_digit _ (omega arith) (digit_decimal _ (omega arith) (omega arith))

pub returns-in-65-to-70 : goal.returns-in-65-to-70
returns-in-65-to-70 c = some_digit _ (omega arith) (omega (arith, digit_capital c.args.b (omega arith) (omega arith)))

pub returns-in-97-to-102 : goal.returns-in-97-to-102
returns-in-97-to-102 c = some_digit _ (omega arith) (omega (arith, digit_small c.args.b (omega arith) (omega arith)))

pub returns-in_default : goal.returns-in_default
returns-in_default c = no_digit _ (digit_low _ (omega arith))

pub returns-in_default-2 : goal.returns-in_default-2
returns-in_default-2 c = no_digit _ (digit_between _ (omega arith) (omega arith))

pub returns-in_default-3 : goal.returns-in_default-3
returns-in_default-3 c = no_digit _ (digit_above _ (omega arith) (omega arith))

pub returns-in_default-4 : goal.returns-in_default-4
returns-in_default-4 c = no_digit _ (digit_high _ (omega arith))
