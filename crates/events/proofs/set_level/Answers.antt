-- `events::set_level` meets its contract. Assumes nothing.
use mathlib.Core.Path.{sym, ◌∙◌}
use native.Mathlib.Omega.{arith}
use borrow.Author.Rules.{rules}
use Rattle.language.specs.Cell.{level}
use Rattle.process.specs.Waiting.{level_taken}
use Rattle.events.proofs.Eight.{gives_map}
use Rattle.events.proofs.EventCases.{level_busy, level_takes, level_none}
use Rattle.events.proofs.set_level.Goals as goal

pub returns-then-any_ready : goal.returns-then-any_ready
returns-then-any_ready c = c.refuse.ensures ∙ sym (level_busy c.args.s (sym c.any_ready.ensures ∙ c.if-any_ready.true) c.args.signal c.args.on)

pub returns-then-at-ge-SIGNALS : goal.returns-then-at-ge-SIGNALS
returns-then-at-ge-SIGNALS c =
    c.refuse-then-at-ge-SIGNALS.ensures
    ∙ sym (level_none c.args.s (sym c.any_ready.ensures ∙ c.if-any_ready.false) c.args.signal c.args.on (omega (arith, c.from-at.ensures, c.if-at-ge-SIGNALS.true)))

pub returns : goal.returns
returns c =
    let a = c.args in
    rw (gives_map (level_taken (level a.signal a.on)) c.each-processes.ensures (λ p q k. search rules), c.from-at.ensures)
    (sym (level_takes a.s (sym c.any_ready.ensures ∙ c.if-any_ready.false) a.signal a.on (omega (arith, c.from-at.ensures, c.if-at-ge-SIGNALS.false))))
