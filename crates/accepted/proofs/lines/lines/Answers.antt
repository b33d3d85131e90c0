-- `accepted::lines::lines` meets its contract. Assumes nothing.
use mathlib.Core.Path.{ap, ◌∙◌}
use native.Mathlib.Omega.{arith}
use Rattle.accepted.specs.Inside.Heads.{count_if}
use Rattle.accepted.specs.Inside.Lines.{lines_in}
use Rattle.accepted.proofs.Counts.{counted}
use Rattle.accepted.proofs.lines.lines.Goals as goal

pub returns : goal.returns
unfolding lines_in
returns c =
    let first = c.from.ensures ∙ (counted _ ∙ ap count_if c.first_empty.ensures) in
    omega (arith, first, c.setting_lines.ensures.0, c.from-behind.ensures, c.requires.1)
