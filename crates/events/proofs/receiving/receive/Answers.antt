-- `events::receiving::receive` meets its contract. Assumes nothing.
use mathlib.Core.Path.{sym, ◌∙◌}
use borrow.Author.Rules.{rules}
use Rattle.process.specs.Waiting.{byte_taken, range_right}
use Rattle.reader.proofs.Each.{each_at}
use Rattle.events.proofs.Eight.{gives_map}
use Rattle.events.proofs.ByteCases.{byte_wrong, byte_busy, byte_takes}
use Rattle.events.proofs.GulpsReach.{ranges_all}
use Rattle.events.proofs.receiving.receive.Goals as goal

pub returns-then-not-ranges_right : goal.returns-then-not-ranges_right
returns-then-not-ranges_right c =
    let a = c.args in
    c.refuse.ensures ∙ byte_wrong a.pool.now a.heads a.s a.b (sym c.ranges_right.ensures ∙ c.if-not-ranges_right.true)

pub returns-then-any_ready : goal.returns-then-any_ready
returns-then-any_ready c =
    let a = c.args in
    c.refuse-then-any_ready.ensures
    ∙ byte_busy a.pool.now a.heads a.s a.b (sym c.ranges_right.ensures ∙ c.if-not-ranges_right.false) (sym c.any_ready.ensures ∙ c.if-any_ready.true)

pub each-processes-requires : goal.each-processes-requires
each-processes-requires c =
    let a = c.args in
    let right = ranges_all a.heads a.s (sym c.ranges_right.ensures ∙ c.if-not-ranges_right.false) in
    λ i d l. let e = each_at range_right a.s.processes i d right l in search (rules, e)

pub returns : goal.returns
returns c =
    let a = c.args in
    rw (gives_map (byte_taken a.pool.now a.b) c.each-processes.ensures (λ p q k. search rules), c.recorded-count.ensures)
    (byte_takes a.pool.now a.heads a.s a.b (sym c.ranges_right.ensures ∙ c.if-not-ranges_right.false) (sym c.any_ready.ensures ∙ c.if-any_ready.false))
