-- `events::passing::data_passed` meets its contract. Assumes nothing.
use mathlib.Core.Path.{sym, ap, ap₂, ◌∙◌}
use mathlib.Core.List.{List}
use Prim.Native.Nat.{ℕ}
use native.Mathlib.Omega.{arith}
use lib.ListN.{length}
use Rattle.events.specs.declared.matching.Matched.{Matched}
use Rattle.events.specs.Inside.Passing.{matched_on}
use Rattle.events.proofs.DataCases.{within_pool, within_data}
use Rattle.events.proofs.DataPassed.{matched_most, data_whole, data_part}
use Rattle.events.proofs.passing.data_passed.Goals as goal

pub awaited_data-want-requires : goal.awaited_data-want-requires
awaited_data-want-requires c = within_pool c.args.m c.requires.0

pub matched_run-r-requires : goal.matched_run-r-requires
matched_run-r-requires c =
    let m = c.args.m in
    let want = c.awaited_data-want.ensures in (
      omega (arith, want.1, c.from.ensures, within_data m c.requires.0),
      omega (arith, want.1, within_pool m c.requires.0),
      rw want.0 c.requires.1,
    )

pub returns-then-r-want : goal.returns-then-r-want
returns-then-r-want c =
    let a = c.args in
    let want = c.awaited_data-want.ensures in (
      c.ended.ensures
          ∙ data_whole a.pool.now a.p.place a.p.end a.m (sym (ap length want.0) ∙ want.1) a.run.now (within_data a.m c.requires.0)
          (c.matched_run-r.ensures.0 ∙ ap₂ (λ (d : List ℕ) (k : ℕ). matched_on d k a.run.now) want.0 c.from.ensures) (c.if-r-want.true ∙ want.1),
      rw want.0 at c.matched_run-r.ensures.1,
    )

pub overflow_cast-result : goal.overflow_cast-result
overflow_cast-result c =
    let a = c.args in
    let d = c.awaited_data-want.result.now in
    let p = c.requires.0 in
    let e = c.awaited_data-want.ensures.1 in
    omega (arith, ap (λ (z : Matched). z.matched) c.matched_run-r.ensures.0, matched_most d c.from.result a.run.now (omega (arith, e, c.from.ensures, within_data a.m p)), e, within_pool a.m p)

pub returns : goal.returns
returns c =
    let a = c.args in
    let want = c.awaited_data-want.ensures in (
      data_part a.pool.now a.p.place a.p.end a.m (sym (ap length want.0) ∙ want.1) a.run.now (within_data a.m c.requires.0)
          (c.matched_run-r.ensures.0 ∙ ap₂ (λ (d : List ℕ) (k : ℕ). matched_on d k a.run.now) want.0 c.from.ensures) (λ e. c.if-r-want.false (e ∙ sym want.1)),
      rw want.0 at c.matched_run-r.ensures.1,
    )
