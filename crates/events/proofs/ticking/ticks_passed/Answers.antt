-- `events::ticking::ticks_passed` meets its contract. Assumes nothing.
use mathlib.Core.Path.{sym, ap, ◌∙◌}
use Rattle.process.specs.Waiting.{with_wait}
use Rattle.events.specs.Inside.Passing.{tick_on, ticks_of}
use Rattle.events.proofs.Reach.{process_through}
use Rattle.events.proofs.ticking.ticks_passed.Goals as goal

pub returns : goal.returns
returns c =
    let p = c.args.p in
    c.with.ensures ∙ ap (with_wait p) c.ticks_left.ensures ∙ sym (process_through tick_on (ticks_of c.args.count) p)
