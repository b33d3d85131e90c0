-- `Figures::passes` meets its contract, by the test on n. Assumes nothing.
use Rattle.std.proofs.Common.{rules, sym, ap, ap₂, ◌∙◌}
use Rattle.figures.specs.Figures.{joined_capped, copies_capped}
use Rattle.figures.specs.Cap.{over}
use Rattle.figures.proofs.Shapes.{looped_ever, looped_some}
use Rattle.figures.proofs.Figures.passes.Goals as goal

pub returns-then-n-eq0 : goal.returns-then-n-eq0
returns-then-n-eq0 c =
    let a = c.args in
    let pass = c.join-pass.ensures ∙ ap (joined_capped a.self) c.plain.ensures in
    c.join.ensures
    ∙ ap₂ joined_capped (c.repeat.ensures ∙ ap (copies_capped over) pass) (search rules)
    ∙ sym (looped_ever a.n a.self c.if-n-eq0.true)

pub returns-else-n-eq0 : goal.returns-else-n-eq0
returns-else-n-eq0 c =
    let a = c.args in
    c.repeat-else-n-eq0.ensures
    ∙ ap (copies_capped a.n) (c.join-pass.ensures ∙ ap (joined_capped a.self) c.plain.ensures)
    ∙ sym (looped_some a.n a.self c.if-n-eq0.false)
