-- `Figures::join` meets its contract: what the tests on `ends` and on the rests decide of a join. Assumes nothing.
use Rattle.std.proofs.Common.{refl, sym, ◌∙◌, arith}
use Rattle.std.proofs.lemmas.Grind.{common_steps}
use Rattle.figures.proofs.Associative.{fig_path}
use Rattle.figures.proofs.Shapes.{joined_ends, joined_never}
use Rattle.figures.proofs.Figures.join.Goals as goal

pub returns-then-not-self : goal.returns-then-not-self
returns-then-not-self c = c.hold.ensures ∙ sym (joined_never _ _ c.if-not-self.true)

pub returns : goal.returns
returns c =
    fig_path
    (grind (arith, common_steps))
    refl
    (grind (arith, common_steps))
    (grind (arith, common_steps))
    (grind (arith, common_steps))
    ∙ sym (joined_ends c.args.self c.args.next c.if-not-self.false)
