-- `events::tick_run` meets its contract. Assumes nothing.
use mathlib.Core.Path.{sym, ◌∙◌}
use borrow.Author.Rules.{rules}
use Rattle.events.proofs.Eight.{gives_map}
use Rattle.events.specs.Inside.Passing.{ticks_on}
use Rattle.events.proofs.GulpsReach.{ticks_busy, ticks_take}
use Rattle.events.proofs.tick_run.Goals as goal

pub returns-then-any_ready : goal.returns-then-any_ready
returns-then-any_ready c = c.refuse.ensures ∙ ticks_busy c.args.s c.args.count (sym c.any_ready.ensures ∙ c.if-any_ready.true)

pub returns : goal.returns
returns c =
    ticks_take c.args.s c.args.count (sym c.any_ready.ensures ∙ c.if-any_ready.false) c.least_ticks-n.ensures
    (gives_map (ticks_on c.least_ticks-n.result) c.each-processes.ensures (λ p q k. search rules))
