-- `events::matching::through_links` meets its contract. Assumes nothing.
use mathlib.Core.Path.{◌≡◌}
use Prim.Native.Nat.{◌<◌}
use native.Mathlib.Omega.{arith}
use lib.ListN.{length, drop_of_length-le}
use Rattle.events.proofs.Links.{advance_le}
use Rattle.events.proofs.DataPassed.{begun, matched_on_lem, matched_whole, matched_end}
use Rattle.events.proofs.matching.through_links.Goals as goal

pub loop-i-init : goal.loop-i-init
loop-i-init c = let a = c.args in (c.requires.0, omega arith, begun a.want.now a.from a.run.now)

pub returns-then-k-want : goal.returns-then-k-want
returns-then-k-want c =
    let l = c.loop-i in
    let a = c.args in
    matched_whole a.want.now a.from l.i l.k a.run.now l.invariant.2 c.if-k-want.true

pub followed-k-requires : goal.followed-k-requires
followed-k-requires c =
    let l = c.loop-i in
    (omega arith, omega (arith, c.requires.1), record { at = λ j some h. c.requires.2.at j some (omega arith) (omega arith) })

pub loop-i-preserved : goal.loop-i-preserved
loop-i-preserved c =
    let a = c.args in
    let l = c.loop-i in
    let part : l.k < length a.want.now = omega arith in
    let few = advance_le _ l.k _ part c.followed-k.ensures in (
      omega arith,
      omega arith,
      matched_on_lem a.want.now a.from l.i l.k a.run.now l.invariant.2 part (omega arith) c.followed-k.ensures,
    )

pub returns : goal.returns
returns c =
    let l = c.loop-i in
    let a = c.args in
    let n : l.i ≡ length a.run.now = omega arith in
    matched_end a.want.now a.from (length a.run.now) l.k a.run.now (rw n at l.invariant.2) (drop_of_length-le a.run.now (omega arith))
