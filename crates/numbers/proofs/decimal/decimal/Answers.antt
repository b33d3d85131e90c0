-- `decimal` meets its contract: each `return` is a case of `decimal_at`. Assumes nothing.
use mathlib.Core.Path.{◌∙◌}
use native.Mathlib.Omega.{arith}
use Rattle.numbers.proofs.Digit.{decimal_none, byte_below, byte_above, byte_shown}
use Rattle.numbers.proofs.decimal.decimal.Goals as goal

pub returns-in_err-b : goal.returns-in_err-b
returns-in_err-b c = c.from_residual.ensures ∙ decimal_none _ _ c.in_err-b.ensures.lookup.3

pub returns-in-48-to-57 : goal.returns-in-48-to-57
returns-in-48-to-57 c =
    let here = c.in_ok-b.ensures.lookup.3 in
    byte_shown _ _ _ here.0 (here.1 0) (omega arith) (omega arith)

pub returns-in_default : goal.returns-in_default
returns-in_default c =
    let here = c.in_ok-b.ensures.lookup.3 in
    byte_below _ _ _ here.0 (here.1 0) (omega arith)

pub returns-in_default-2 : goal.returns-in_default-2
returns-in_default-2 c =
    let here = c.in_ok-b.ensures.lookup.3 in
    byte_above _ _ _ here.0 (here.1 0) (omega arith)
