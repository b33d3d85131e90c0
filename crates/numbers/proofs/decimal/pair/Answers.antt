-- `pair` meets its contract: each `return` is a case of `pair_of`. Assumes nothing.
use Prim.Native.Nat.{◌+◌}
use mathlib.Core.Path.{sym, ◌∙◌}
use native.Mathlib.Omega.{arith}
use Rattle.numbers.proofs.Digit.{Shown, shown, pair_ends}
use Rattle.numbers.proofs.Pairs.{tens_low, tens_high, units_none, units_low, units_high, pair_read}
use Rattle.numbers.proofs.decimal.pair.Goals as goal
use Rattle.numbers.proofs.decimal.pair.Goals.{In-Some, In-Some-decimal, then-tens-low-via-then-tens-low, then-tens-low-via-else-tens-low+then-high-tens, then-value-low-via-then-value-low, then-value-low-via-else-value-low+then-high-value}

tens : (c : In-Some) → Shown c.args.s.now c.args.at c.in-Some.tens
tens c = shown _ _ (sym c.in-Some.is ∙ c.decimal.ensures)

units : (c : In-Some-decimal) → Shown c.args.s.now (c.args.at + 1) c.in-Some-decimal.units
units c = shown _ _ (sym c.in-Some-decimal.is ∙ c.decimal-2.ensures)

pub returns-in_default : goal.returns-in_default
returns-in_default c = pair_ends _ _ _ _ (sym c.in_default.is ∙ c.decimal.ensures)

pub overflow_mul-tens : goal.overflow_mul-tens
overflow_mul-tens c = let t = tens (goal.at.overflow_mul-tens c).In-Some in omega (arith, t.small)

pub overflow_add-tens : goal.overflow_add-tens
overflow_add-tens c = let t = tens (goal.at.overflow_add-tens c).In-Some in omega (arith, t.small)

pub overflow_mul-tens-else-tens-low : goal.overflow_mul-tens-else-tens-low
overflow_mul-tens-else-tens-low c = let t = tens (goal.at.overflow_mul-tens-else-tens-low c).In-Some in omega (arith, t.small)

pub returns-then-tens-low : goal.returns-then-tens-low
returns-then-tens-low c =
    let t = tens (goal.at.returns-then-tens-low c).In-Some in
    elim c.then-tens-low.branch [
      | then-tens-low-via-then-tens-low w ↦ tens_low _ _ t w.if-tens-low.true
      | then-tens-low-via-else-tens-low+then-high-tens w ↦ tens_high _ _ t w.if-tens-low.false w.if-high-tens.true
    ]

pub overflow_add-next : goal.overflow_add-next
overflow_add-next c = let t = tens (goal.at.overflow_add-next c).In-Some in omega (arith, t.inside)

pub returns-in_default-decimal : goal.returns-in_default-decimal
returns-in_default-decimal c =
    let t = tens (goal.at.returns-in_default-decimal c).In-Some in
    units_none _ _ t c.if-tens-low.false c.if-high-tens.false (sym c.in_default-decimal.is ∙ c.decimal-2.ensures)

pub overflow_add-value : goal.overflow_add-value
overflow_add-value c =
    let t = tens (goal.at.overflow_add-value c).In-Some in
    let u = units (goal.at.overflow_add-value c).In-Some-decimal in
    omega (arith, t.small, u.small)

pub returns-then-value-low : goal.returns-then-value-low
returns-then-value-low c =
    let t = tens (goal.at.returns-then-value-low c).In-Some in
    let u = units (goal.at.returns-then-value-low c).In-Some-decimal in
    elim c.then-value-low.branch [
      | then-value-low-via-then-value-low w ↦ units_low _ _ t c.if-tens-low.false c.if-high-tens.false u w.if-value-low.true
      | then-value-low-via-else-value-low+then-high-value w ↦
          units_high _ _ t c.if-tens-low.false c.if-high-tens.false u w.if-value-low.false w.if-high-value.true
    ]

pub overflow_add-result : goal.overflow_add-result
overflow_add-result c = let u = units (goal.at.overflow_add-result c).In-Some-decimal in omega (arith, u.inside)

pub returns : goal.returns
returns c =
    let t = tens (goal.at.returns c).In-Some in
    let u = units (goal.at.returns c).In-Some-decimal in
    rw c.from.ensures (pair_read _ _ t c.if-tens-low.false c.if-high-tens.false u c.if-value-low.false c.if-high-value.false)
