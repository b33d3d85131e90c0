-- `accepted::cells_fit::after` meets its contract. Assumes nothing.
use mathlib.Core.Path.{sym, ◌∙◌}
use borrow.Author.Tests.{ne_eqb}
use Rattle.accepted.proofs.Data.{here, elsewhere}
use Rattle.accepted.proofs.cells_fit.after.Goals as goal
use Rattle.accepted.proofs.cells_fit.after.Goals.{then-from-at, else-from-at}

pub returns : goal.returns
returns c =
    elim c.if-from-at.branch [
      | then-from-at w ↦ c.then_some.ensures ∙ here _ _ _ (sym c.from-from.ensures ∙ w.if-from-at.true) c.from-from.ensures c.from.ensures w.then_some-is
      | else-from-at w ↦ c.then_some.ensures ∙ elsewhere _ _ _ (λ e. w.if-from-at.false (c.from-from.ensures ∙ e)) _ (w.then_some-is ∙ ne_eqb _ _ w.if-from-at.false)
    ]
