-- `events::receiving::match_byte` meets its contract. Assumes nothing.
use mathlib.Core.Path.{sym, ap, ap₂, ◌∙◌}
use mathlib.Core.List.{List}
use Prim.Native.Nat.{ℕ, ◌<◌}
use native.Mathlib.Omega.{arith}
use lib.ListN.{length}
use Rattle.process.specs.Matching.{advance}
use Rattle.process.specs.Waiting.{matched_wait}
use Rattle.events.proofs.Links.{advance_le}
use Rattle.events.proofs.DataCases.{within_pool, within_data, match_ends, match_stays}
use Rattle.events.proofs.receiving.match_byte.Goals as goal

pub awaited_data-want-requires : goal.awaited_data-want-requires
awaited_data-want-requires c = within_pool c.args.m c.requires

pub advanced-k-requires : goal.advanced-k-requires
advanced-k-requires c =
    let m = c.args.m in
    let p = c.requires in
    (omega (arith, c.awaited_data-want.ensures.1, c.from.ensures, within_data m p), omega (arith, c.from.ensures, within_data m p, within_pool m p))

pub returns-then-k-want : goal.returns-then-k-want
returns-then-k-want c =
    let a = c.args in
    c.awake.ensures
    ∙ sym (match_ends a.p.place a.p.end a.m c.advanced-k.result (c.if-k-want.true ∙ c.awaited_data-want.ensures.1))
    ∙ ap (matched_wait a.p.place a.p.end a.m) (c.advanced-k.ensures ∙ ap₂ (λ (d : List ℕ) (k : ℕ). advance d k a.b) c.awaited_data-want.ensures.0 c.from.ensures)

pub overflow_cast-result : goal.overflow_cast-result
overflow_cast-result c =
    let m = c.args.m in
    let l : c.from.result < length c.awaited_data-want.result.now = omega (arith, c.awaited_data-want.ensures.1, c.from.ensures, within_data m c.requires) in
    record { fits = omega (arith, advance_le _ _ _ l c.advanced-k.ensures, c.from.ensures, within_data m c.requires, within_pool m c.requires) }

pub returns : goal.returns
returns c =
    let a = c.args in
    sym (match_stays a.p.place a.p.end a.m c.advanced-k.result (λ e. c.if-k-want.false (e ∙ sym c.awaited_data-want.ensures.1)))
    ∙ ap (matched_wait a.p.place a.p.end a.m) (c.advanced-k.ensures ∙ ap₂ (λ (d : List ℕ) (k : ℕ). advance d k a.b) c.awaited_data-want.ensures.0 c.from.ensures)
