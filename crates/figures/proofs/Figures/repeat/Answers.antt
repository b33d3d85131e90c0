-- `Figures::repeat` meets its contract, by the tests on n, `ends` and `rests`. Assumes nothing.
use Rattle.std.proofs.Common.{sym, ◌∙◌, arith}
use Rattle.std.proofs.lemmas.Grind.{common_steps}
use Rattle.figures.proofs.Associative.{fig_path}
use Rattle.figures.specs.Figures.{capped}
use Rattle.figures.proofs.Shapes.{copies_none, copies_rest, copies_flat, copies_never}
use Rattle.figures.proofs.Figures.repeat.Goals as goal

pub returns-then-n-eq0 : goal.returns-then-n-eq0
returns-then-n-eq0 c = c.nothing.ensures ∙ sym (copies_none c.args.n c.args.self c.if-n-eq0.true)

pub returns-then-not-self : goal.returns-then-not-self
returns-then-not-self c = c.hold.ensures ∙ sym (copies_never c.args.n c.args.self c.if-n-eq0.false c.if-not-self.true)

pub returns-then-self : goal.returns-then-self
unfolding capped
returns-then-self c =
    fig_path
    (grind (arith, common_steps))
    (grind (arith, common_steps))
    (grind (arith, common_steps))
    (grind (arith, common_steps))
    (grind (arith, common_steps))
    ∙ sym (copies_rest c.args.n c.args.self c.if-n-eq0.false c.if-not-self.false c.if-self.true)

pub returns : goal.returns
returns c =
    fig_path c.if-self.false c.if-not-self.false c.product-all.ensures c.product-all.ensures
    (grind (arith, common_steps))
    ∙ sym (copies_flat c.args.n c.args.self c.if-n-eq0.false c.if-not-self.false c.if-self.false)
