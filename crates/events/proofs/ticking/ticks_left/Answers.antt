-- `events::ticking::ticks_left` meets its contract: each arm is given which variant the wait is. Assumes nothing.
use mathlib.Core.Path.{sym, ap, ◌∙◌}
use native.Mathlib.Omega.{arith}
use Rattle.process.specs.Waiting.{ready_wait}
use Rattle.events.specs.Inside.Passing.{through, tick_on, ticks_of}
use Rattle.events.proofs.Reach.{stays_through}
use Rattle.events.proofs.WaitsPassed.{least_max, least_over, ticks_stay, ticks_over, ticks_past}
use Rattle.events.proofs.ticking.ticks_left.Goals as goal

pub overflow_sub-result : goal.overflow_sub-result
overflow_sub-result c = least_over c.in-Ticks.n c.args.count (omega (arith, c.max.ensures, c.if-count-max.true, least_max c.in-Ticks.n))

pub returns-in-Ticks : goal.returns-in-Ticks
returns-in-Ticks c =
    let p = c.args.p in
    ticks_stay p.place p.end c.in-Ticks.n c.args.count (omega (arith, c.max.ensures, c.if-count-max.true, least_max c.in-Ticks.n))
    ∙ ap (through (tick_on p.place p.end) (ticks_of c.args.count)) (sym c.in-Ticks.is)

pub returns-in-Ticks-2 : goal.returns-in-Ticks-2
returns-in-Ticks-2 c =
    let p = c.args.p in
    c.awake.ensures
    ∙ ticks_over p.place p.end c.in-Ticks.n c.args.count (omega (arith, c.max.ensures, c.if-count-max.false, least_max c.in-Ticks.n))
    ∙ ap (through (tick_on p.place p.end) (ticks_of c.args.count)) (sym c.in-Ticks.is)

pub returns-in_default : goal.returns-in_default
returns-in_default c =
    let p = c.args.p in
    sym (stays_through (tick_on p.place p.end) ready_wait p.wait (λ x. ticks_past p.place p.end p.wait c.in_default.not-Ticks) (ticks_of c.args.count))
