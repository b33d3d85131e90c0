-- `events::passing::pass_each` meets its contract: i processes have gone through the run, each no farther than those before it. Assumes nothing.
use mathlib.Core.Path.{◌≡◌, refl, ◌∙◌}
use Prim.Native.Nat.{◌+◌, ◌-◌, ◌≤◌, ◌<◌}
use native.Mathlib.Omega.{arith}
use lib.ListN.{length, take, drop}
use borrow.Author.Rules.{rules}
use Rattle.reader.proofs.Each.{each_at}
use Rattle.process.specs.Waiting.{ready, range_right, byte_taken}
use Rattle.events.proofs.Kept.{places_few, begins_first, kept_at, turn}
use Rattle.events.proofs.Reach.{none_passes}
use Rattle.events.proofs.Together.{going_begun, goes_on_lem, goes_less, going_done}
use Rattle.events.proofs.passing.pass_each.Goals as goal
use Rattle.events.proofs.passing.pass_each.Goals.{then-r-n, else-r-n, After-wait_passed-r, At-loop-i}

all-eight : (c : At-loop-i) → length c.args.ps ≡ 8
all-eight c = search rules

-- the links that a wait hands back are as many as it was lent
same_places : (c : After-wait_passed-r) →
    (let l = c.loop-i in
    length c.wait_passed-r.new.kept ≡ length (take (l.from + c.places_for.result - l.from) (drop l.from l.links)))
same_places c = search rules

pub loop-i-init : goal.loop-i-init
loop-i-init c =
    let a = c.args in
    (omega arith, going_begun a.pool.now a.run.now a.ps, begins_first (length a.links.now) 0 a.ps, omega arith, refl, c.requires.2)

pub overflow_add-to : goal.overflow_add-to
overflow_add-to c =
    let l = c.loop-i in
    omega (arith, places_few _ c.places_for.ensures, l.invariant.3, l.invariant.4, c.well_formed.1.1.1.0.0)

pub first-requires : goal.first-requires
first-requires c = c.loop-i.invariant.1.most

pub slice_bounds-wait_passed-end : goal.slice_bounds-wait_passed-end
slice_bounds-wait_passed-end c =
    let l = c.loop-i in
    let few : l.from + c.places_for.result ≤ length l.links = omega (arith, places_few _ c.places_for.ensures, l.invariant.3) in
    search (rules, few)

pub wait_passed-r-requires : goal.wait_passed-r-requires
wait_passed-r-requires c =
    let l = c.loop-i in
    let ps = c.args.ps in
    let n : length ps ≡ 8 = search rules in
    let k : l.from + c.places_for.result - l.from ≡ c.places_for.result = omega arith in (
      each_at range_right ps l.i _ c.requires.0 (omega arith),
      none_passes (byte_taken c.args.pool.now) ready ps l.i _ c.requires.1 (omega arith),
      rw k (kept_at c.args.pool.now l.links 0 ps l.i _ (omega arith) l.invariant.2 c.places_for.ensures l.invariant.5),
    )

pub loop-i-preserved : goal.loop-i-preserved
loop-i-preserved c =
    let a = c.args in
    let l = c.loop-i in
    let n = all-eight (goal.at.loop-i-preserved c).At-loop-i in
    let here : l.i < 8 = omega (arith, c.loop-i-test.true) in
    let k : l.from + c.places_for.result - l.from ≡ c.places_for.result = omega arith in
    let t = turn a.pool.now l.links _ a.ps l.i _ (omega arith) l.invariant.2 c.places_for.ensures k (same_places (goal.at.loop-i-preserved c).After-wait_passed-r) c.wait_passed-r.ensures.1 l.invariant.5 in
    elim c.if-r-n.branch [
      | then-r-n w ↦ (omega arith, goes_less a.pool.now a.run.now a.ps l.i l.next l.n l.again _ l.invariant.1 (omega arith) c.first.ensures.0 c.wait_passed-r.ensures.0 c.with.ensures w.again-is w.if-r-n.true, t.0, t.1, t.2 ∙ l.invariant.4, t.3)
      | else-r-n w ↦ (omega arith, rw w.again-is (goes_on_lem a.pool.now a.run.now a.ps l.i l.next l.n l.again _ l.invariant.1 (omega arith) c.first.ensures.0 c.wait_passed-r.ensures.0 c.with.ensures (λ e. omega (arith, w.if-r-n.false))), t.0, t.1, t.2 ∙ l.invariant.4, t.3)
    ]

pub returns : goal.returns
returns c =
    let l = c.loop-i in
    let a = c.args in
    let n : length a.ps ≡ 8 = search rules in
    (going_done a.pool.now a.run.now a.ps l.invariant.1 (omega arith), l.invariant.5)
