-- `events::matching::matched_run` meets its contract. Assumes nothing.
use mathlib.Core.Path.{sym, ap, ◌∙◌}
use mathlib.Core.List.{List}
use Prim.Native.Nat.{ℕ}
use native.Mathlib.Omega.{arith}
use lib.ListN.{drop, length-drop, drop_of_length-le}
use Rattle.events.specs.declared.matching.Matched.{Matched}
use Rattle.events.specs.Inside.Passing.{farther, matched_on}
use Rattle.events.proofs.DataPassed.{rest_is, matched_few, matched_whole, matched_end}
use Rattle.events.proofs.matching.matched_run.Goals as goal
use Rattle.events.proofs.matching.matched_run.Goals.{then-first-want-via-then-first-want, then-first-want-via-else-first-want+then-at-run}

pub returns-then-first-want : goal.returns-then-first-want
returns-then-first-want c =
    let a = c.args in
    let r = c.unlinked-first.result in
    let so = c.unlinked-first.ensures.0 in
    elim c.then-first-want.branch [
      | then-first-want-via-then-first-want w ↦ (matched_whole a.want.now a.from r.count r.matched a.run.now so w.if-first-want.true, c.requires.2)
      | then-first-want-via-else-first-want+then-at-run w ↦ (matched_end a.want.now a.from r.count r.matched a.run.now so (drop_of_length-le a.run.now {i = r.count} (omega (arith, w.if-at-run.true))), c.requires.2)
    ]

pub overflow_add-result : goal.overflow_add-result
overflow_add-result c =
    let a = c.args in
    let r = c.unlinked-first.result in
    let rest = rest_is a.run.now r.count in
    let e = ap (λ (z : Matched). z.count) c.linked_run-last.ensures.0 ∙ ap (λ (l : List ℕ). (matched_on a.want.now r.matched l).count) rest in
    omega (arith, e, matched_few a.want.now r.matched (drop r.count a.run.now) c.unlinked-first.ensures.1, length-drop r.count a.run.now, c.unlinked-first.ensures.2, c.well_formed.1.1.0.0)

pub returns : goal.returns
returns c =
    let a = c.args in
    let r = c.unlinked-first.result in (
      ap (farther r.count) (c.linked_run-last.ensures.0 ∙ ap (matched_on a.want.now r.matched) (rest_is a.run.now r.count))
          ∙ sym c.unlinked-first.ensures.0,
      c.linked_run-last.ensures.1,
    )
