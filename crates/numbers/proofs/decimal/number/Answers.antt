-- `number` meets its contract: each turn of the loop is a law on its state, `Reading`. Assumes nothing.
use mathlib.Core.Path.{sym, ◌∙◌}
use native.Mathlib.Omega.{arith}
use Rattle.numbers.proofs.Digit.{shown}
use Rattle.numbers.proofs.Reading.{begun, nothing_read, number_read, too_long, too_large, taken}
use Rattle.numbers.proofs.decimal.number.Goals as goal
use Rattle.numbers.proofs.decimal.number.Goals.{then-most-got-via-then-most-got, then-most-got-via-else-most-got+then-from-value}

pub loop-d-init : goal.loop-d-init
loop-d-init c = begun

pub returns-then-most-got : goal.returns-then-most-got
returns-then-most-got c =
    let there = shown _ _ (sym c.in-Some.is ∙ c.decimal.ensures) in
    elim c.then-most-got.branch [
      | then-most-got-via-then-most-got w ↦ too_long c.loop-d.invariant there w.if-most-got.true
      | then-most-got-via-else-most-got+then-from-value w ↦
          too_large c.loop-d.invariant there w.if-most-got.false c.from.ensures c.from-in-Some.ensures (omega (arith, w.if-from-value.true, w.from-else-most-got.ensures))
    ]

pub overflow_add-got : goal.overflow_add-got
overflow_add-got c =
    let there = shown _ _ (sym c.in-Some.is ∙ c.decimal.ensures) in
    omega (arith, there.inside)

pub loop-d-smaller : goal.loop-d-smaller
loop-d-smaller c =
    let there = shown _ _ (sym c.in-Some.is ∙ c.decimal.ensures) in
    omega (arith, there.inside)

pub loop-d-preserved : goal.loop-d-preserved
loop-d-preserved c =
    let there = shown _ _ (sym c.in-Some.is ∙ c.decimal.ensures) in
    taken c.loop-d.invariant there (omega arith) c.from.ensures c.from-in-Some.ensures (omega (arith, c.from-else-most-got.ensures))

pub returns-then-got-at : goal.returns-then-got-at
returns-then-got-at c = nothing_read c.loop-d.invariant (sym c.in_default.is ∙ c.decimal.ensures) c.if-got-at.true

pub returns-else-got-at : goal.returns-else-got-at
returns-else-got-at c = number_read c.loop-d.invariant (sym c.in_default.is ∙ c.decimal.ensures) c.if-got-at.false
