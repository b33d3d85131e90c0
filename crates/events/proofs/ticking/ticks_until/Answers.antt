-- `events::ticking::ticks_until` meets its contract: each arm is given which variant the wait is. Assumes nothing.
use mathlib.Core.Path.{◌≡◌, sym, ap, ◌∙◌}
use Prim.Native.Nat.{ℕ}
use native.Mathlib.Omega.{arith}
use lib.ListN.{length-replicate}
use Rattle.process.specs.Waiting.{ready_wait}
use Rattle.events.specs.Inside.Passing.{reach, at_least1, tick_on, ticks_of}
use Rattle.events.proofs.Reach.{stays_reach}
use Rattle.events.proofs.WaitsPassed.{least_max, ticks_all, ticks_ready, ticks_done, ticks_past}
use Rattle.events.proofs.ticking.ticks_until.Goals as goal

pub returns-then-most-last : goal.returns-then-most-last
returns-then-most-last c =
    let p = c.args.p in
    ticks_all p.place p.end c.in-Ticks.n c.args.most (omega (arith, c.max-last.ensures, c.if-most-last.true, least_max c.in-Ticks.n))
    ∙ ap (reach (tick_on p.place p.end) ready_wait (ticks_of c.args.most)) (sym c.in-Ticks.is)

pub returns-then-p : goal.returns-then-p
returns-then-p c =
    let p = c.args.p in
    let last : c.max-last.result ≡ at_least1 c.in-Ticks.n = omega (arith, c.max-last.ensures, least_max c.in-Ticks.n) in
    last ∙ ticks_ready p.place p.end c.in-Ticks.n c.args.most (omega (arith, last, c.if-most-last.false)) c.if-p.true
    ∙ ap (reach (tick_on p.place p.end) ready_wait (ticks_of c.args.most)) (sym c.in-Ticks.is)

pub returns-else-p : goal.returns-else-p
returns-else-p c =
    let p = c.args.p in
    ticks_done p.place p.end c.in-Ticks.n c.args.most (omega (arith, c.max-last.ensures, least_max c.in-Ticks.n, c.if-most-last.false)) c.if-p.false
    ∙ ap (reach (tick_on p.place p.end) ready_wait (ticks_of c.args.most)) (sym c.in-Ticks.is)

pub returns-in_default : goal.returns-in_default
returns-in_default c =
    let p = c.args.p in
    sym (stays_reach (tick_on p.place p.end) ready_wait p.wait (λ x. ticks_past p.place p.end p.wait c.in_default.not-Ticks) c.requires (ticks_of c.args.most)
    ∙ length-replicate {A = ℕ} c.args.most 0)
