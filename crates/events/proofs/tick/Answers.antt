-- `events::tick` meets its contract. Assumes nothing.
use mathlib.Core.Path.{sym, ◌∙◌}
use borrow.Author.Rules.{rules}
use Rattle.process.specs.Waiting.{ticked}
use Rattle.events.proofs.Eight.{gives_map}
use Rattle.events.proofs.EventCases.{tick_busy, tick_takes}
use Rattle.events.proofs.tick.Goals as goal

pub returns-then-any_ready : goal.returns-then-any_ready
returns-then-any_ready c = c.refuse.ensures ∙ sym (tick_busy c.args.s (sym c.any_ready.ensures ∙ c.if-any_ready.true))

pub returns : goal.returns
returns c =
    rw (gives_map ticked c.each-processes.ensures (λ p q k. search rules))
    (sym (tick_takes c.args.s (sym c.any_ready.ensures ∙ c.if-any_ready.false)))
