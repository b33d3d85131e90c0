-- `put_decimal` meets its contract: each turn of the loop is a law on its state, `Digiting`. Assumes nothing.
use Prim.Native.Nat.{◌+◌, ◌-◌, ◌≤◌}
use mathlib.Core.Path.{◌≡◌, sym, ◌∙◌}
use native.Mathlib.Omega.{arith}
use lib.ListN.{length, take, drop}
use borrow.Author.Tests.{leb-true, leb-false}
use Rattle.writer.specs.Put.{decimal}
use Rattle.writer.proofs.Decimals.{decimal_length}
use Rattle.writer.proofs.Writing.{copied}
use Rattle.writer.proofs.Widths.{no_digits, unplaced, power_left, digit_placed, part_long, part_filled}
use Rattle.writer.proofs.put_decimal.Goals as goal

pub returns-then-not-has_room : goal.returns-then-not-has_room
returns-then-not-has_room c = no_digits _ _ _ c.width-count.ensures.0 (leb-false _ _ (sym c.has_room.ensures ∙ c.if-not-has_room.true))

pub loop-digit-init : goal.loop-digit-init
loop-digit-init c =
    let l = part_long _ _ _ (leb-true _ _ (sym c.has_room.ensures ∙ c.if-not-has_room.false)) in
    let a = c.args in
    let k = c.width-count.result.count in
    let e : length (take (a.at + k - a.at) (drop a.at a.dst.now)) - 0 ≡ k = omega (arith, l) in
    rw (e, c.from-left.ensures) (unplaced c.width-count.ensures (omega arith) (omega (arith, l)))

pub nonzero_div-digit : goal.nonzero_div-digit
nonzero_div-digit c = power_left _ c.loop-digit.invariant (omega (arith, c.loop-digit-test.true))

pub nonzero_rem-left : goal.nonzero_rem-left
nonzero_rem-left c = power_left _ c.loop-digit.invariant (omega (arith, c.loop-digit-test.true))

pub loop-digit-preserved : goal.loop-digit-preserved
loop-digit-preserved c = digit_placed _ _ c.loop-digit.invariant (omega (arith, c.loop-digit-test.true))

pub returns : goal.returns
returns c =
    let a = c.args in
    let room : a.at + c.width-count.result.count ≤ length a.dst.now = leb-true _ _ (sym c.has_room.ensures ∙ c.if-not-has_room.false) in
    let l = part_long a.dst.now a.at c.width-count.result.count room in
    let w : c.width-count.result.count ≡ length (decimal a.n) = omega (arith, decimal_length a.n, c.width-count.ensures.0) in
    let filled = part_filled _ c.loop-digit.invariant (omega (arith, c.loop-digit-test.false)) (l ∙ w) in
    rw w (copied _ _ _ _ (rw w at room) filled)
