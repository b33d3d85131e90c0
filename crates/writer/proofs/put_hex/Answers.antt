-- `put_hex` meets its contract: each turn of the loop is a law on its state, `Placing`. Assumes nothing.
use Prim.Native.Nat.{◌+◌, ◌*◌}
use Rattle.std.specs.Prelude.{Some}
use mathlib.Core.Path.{◌≡◌, ap, ◌∙◌}
use native.Mathlib.Omega.{arith}
use lib.ListN.{length, drop_of_length-le}
use Rattle.writer.specs.Hex.{hex_text}
use Rattle.writer.proofs.Hexes.{hex_length}
use Rattle.reader.proofs.Placing.{begun, renamed}
use Rattle.writer.proofs.Writing.{done, no_room, two_stored}
use Rattle.writer.proofs.put_hex.Goals as goal
use Rattle.writer.proofs.put_hex.Goals.{then-dst-at-via-then-dst-at, then-dst-at-via-else-dst-at+then-dst-at-2}

pub returns-then-dst-at : goal.returns-then-dst-at
returns-then-dst-at c =
    let a = c.args in
    elim c.then-dst-at.branch [
      | then-dst-at-via-then-dst-at w ↦ no_room (hex_text a.bytes.now) a.dst.now a.at (omega (arith, hex_length a.bytes.now, w.if-dst-at.true))
      | then-dst-at-via-else-dst-at+then-dst-at-2 w ↦
          no_room (hex_text a.bytes.now) a.dst.now a.at (omega (arith, hex_length a.bytes.now, w.if-dst-at.false, w.if-dst-at-2.true))
    ]

pub loop-i-init : goal.loop-i-init
loop-i-init c =
    let a = c.args in
    let e : a.at + 2 * 0 ≡ a.at = omega arith in
    rw e (begun (omega (arith, hex_length a.bytes.now)))

pub loop-i-preserved : goal.loop-i-preserved
loop-i-preserved c =
    let i = c.loop-i.i in
    let e : c.args.at + 2 * (i + 1) ≡ c.args.at + 2 * i + 2 = omega arith in
    rw e (
    two_stored _ _ c.loop-i-test.true (c.type_inv.bytes i).fits
    c.capital_digit.ensures c.capital_digit-in-loop-i.ensures c.loop-i.invariant
    )

pub returns : goal.returns
unfolding hex_text
returns c =
    let a = c.args in
    let e : a.at + 2 * length a.bytes.now ≡ a.at + 2 * c.loop-i.i = omega (arith, c.loop-i-test.false, c.loop-i.auto.i-end) in
    let w = done (renamed (ap hex_text (drop_of_length-le _ c.loop-i-test.false)) c.loop-i.invariant) in
    (ap Some e ∙ w.0, w.1)
