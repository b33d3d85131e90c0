-- `events::read_clock` meets its contract. Assumes nothing.
use mathlib.Core.Path.{sym, ◌∙◌}
use borrow.Author.Rules.{rules}
use Rattle.process.specs.Waiting.{reading_taken}
use Rattle.events.proofs.Eight.{gives_map}
use Rattle.events.proofs.EventCases.{reading_busy, reading_takes, reading_wrong}
use Rattle.events.proofs.read_clock.Goals as goal

pub returns-then-any_ready : goal.returns-then-any_ready
returns-then-any_ready c = c.refuse.ensures ∙ sym (reading_busy c.args.s (sym c.any_ready.ensures ∙ c.if-any_ready.true) c.args.r)

pub returns-then-not-reading_right : goal.returns-then-not-reading_right
returns-then-not-reading_right c =
    c.refuse-then-not-reading_right.ensures
    ∙ sym (reading_wrong c.args.s (sym c.any_ready.ensures ∙ c.if-any_ready.false) c.args.r (sym c.reading_right.ensures ∙ c.if-not-reading_right.true))

pub returns : goal.returns
returns c =
    rw (gives_map (reading_taken c.args.r) c.each-processes.ensures (λ p q k. search rules))
    (sym (reading_takes c.args.s (sym c.any_ready.ensures ∙ c.if-any_ready.false) c.args.r (sym c.reading_right.ensures ∙ c.if-not-reading_right.false)))
