-- `events::matching::unlinked` meets its contract. Assumes nothing.
use mathlib.Core.Path.{◌≡◌, ◌∙◌}
use Prim.Native.Nat.{ℕ, ◌+◌, ◌<◌}
use native.Mathlib.Omega.{arith}
use lib.ListN.{length, get_or, drop}
use Rattle.process.specs.Matching.{advance}
use Rattle.events.specs.Inside.Passing.{farther, matched_on}
use Rattle.events.proofs.Links.{advance_hit, advance_none}
use Rattle.events.proofs.DataPassed.{begun, matched_on_lem}
use Rattle.events.proofs.matching.unlinked.Goals as goal
use Rattle.events.proofs.matching.unlinked.Goals.{then-want-k, else-want-k+else-k-ne0}

pub loop-i-init : goal.loop-i-init
loop-i-init c = let a = c.args in (c.requires, begun a.want.now a.from a.run.now)

pub returns-then-k-want : goal.returns-then-k-want
returns-then-k-want c =
    let l = c.loop-i in
    (l.invariant.1, l.invariant.0, omega arith)

pub returns-then-k-ne0 : goal.returns-then-k-ne0
returns-then-k-ne0 c =
    let l = c.loop-i in
    (l.invariant.1, l.invariant.0, omega arith)

pub loop-i-preserved : goal.loop-i-preserved
loop-i-preserved c =
    let a = c.args in
    let l = c.loop-i in
    let inside : l.i < length a.run.now = omega arith in
    let part : l.k < length a.want.now = omega arith in
    let on : (j : ℕ) → j ≡ advance a.want.now l.k (get_or a.run.now l.i 0) → matched_on a.want.now a.from a.run.now ≡ farther (l.i + 1) (matched_on a.want.now j (drop (l.i + 1) a.run.now)) =
    λ j e. matched_on_lem a.want.now a.from l.i l.k a.run.now l.invariant.1 part inside e
    in
    elim c.if-want-k.branch [
      | then-want-k w ↦ (omega (arith, w.k-is), on _ (w.k-is ∙ advance_hit _ l.k _ part w.if-want-k.true))
      | else-want-k+else-k-ne0 w ↦ (omega (arith, w.k-is), on _ (w.k-is ∙ w.if-k-ne0.false ∙ advance_none _ l.k _ part w.if-want-k.false w.if-k-ne0.false))
    ]

pub returns : goal.returns
returns c =
    let l = c.loop-i in
    let n : l.i ≡ length c.args.run.now = omega arith in
    (rw n at l.invariant.1, l.invariant.0, omega arith)
