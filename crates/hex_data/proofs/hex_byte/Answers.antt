-- `hex_byte` meets its contract: each way is a case of `hex_byte_of`. Assumes nothing.
use Prim.Native.Nat.{◌+◌}
use mathlib.Core.Path.{sym, ◌∙◌}
use native.Mathlib.Omega.{arith}
use Rattle.hex_data.proofs.Pairs.{Shown, shown, byte_gone, one_digit, two_digits}
use Rattle.hex_data.proofs.hex_byte.Goals as goal
use Rattle.hex_data.proofs.hex_byte.Goals.{In-Some, In-Some-digit_at}

high : (c : In-Some) → Shown c.args.s.now c.args.at c.in-Some.high
high c = shown _ _ (sym c.in-Some.is ∙ c.digit_at.ensures)

low : (c : In-Some-digit_at) → Shown c.args.s.now (c.args.at + 1) c.in-Some-digit_at.low
low c = shown _ _ (sym c.in-Some-digit_at.is ∙ c.digit_at-2.ensures)

pub returns-in_default : goal.returns-in_default
returns-in_default c = byte_gone _ _ (sym c.in_default.is ∙ c.digit_at.ensures)

pub overflow_add-next : goal.overflow_add-next
overflow_add-next c = let h = high (goal.at.overflow_add-next c).In-Some in omega (arith, h.inside)

pub overflow_mul-high : goal.overflow_mul-high
overflow_mul-high c = let h = high (goal.at.overflow_mul-high c).In-Some in omega (arith, h.small)

pub overflow_add-high : goal.overflow_add-high
overflow_add-high c =
    let h = high (goal.at.overflow_add-high c).In-Some in
    let l = low (goal.at.overflow_add-high c).In-Some-digit_at in
    omega (arith, h.small, l.small)

pub overflow_add-result : goal.overflow_add-result
overflow_add-result c = let l = low (goal.at.overflow_add-result c).In-Some-digit_at in omega (arith, l.inside)

pub returns-in-None : goal.returns-in-None
returns-in-None c =
    rw c.from.ensures (one_digit (high (goal.at.returns-in-None c).In-Some) (sym c.in-None.is ∙ c.digit_at-2.ensures))

pub returns-in-Some-digit_at : goal.returns-in-Some-digit_at
returns-in-Some-digit_at c =
    let h = high (goal.at.returns-in-Some-digit_at c).In-Some in
    let l = low (goal.at.returns-in-Some-digit_at c).In-Some-digit_at in
    rw c.from-in-Some-digit_at.ensures (two_digits h l)
