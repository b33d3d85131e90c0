-- `accepted::settings::extension_fits` meets its contract. Assumes nothing.
use mathlib.Core.Path.{◌∙◌}
use mathlib.Core.Logic.{⊎_elim}
use native.Mathlib.Omega.{arith}
use Rattle.accepted.proofs.AllZero.{zeros_are}
use Rattle.accepted.proofs.Extension.{letters_count, no_letters, many_letters, small_letters, right_letters}
use Rattle.accepted.proofs.settings.extension_fits.Goals as goal

pub returns-then-count-lt1 : goal.returns-then-count-lt1
returns-then-count-lt1 c =
    let is = c.letters-count.ensures in
    ⊎_elim (λ h. no_letters _ is (omega (arith, h))) (λ h. many_letters _ is (omega (arith, h.0)) h.1) c.then-count-lt1.either

pub slice_bounds-all_capital-end : goal.slice_bounds-all_capital-end
slice_bounds-all_capital-end c = letters_count _ c.letters-count.ensures

pub returns-then-all_capital : goal.returns-then-all_capital
returns-then-all_capital c =
    right_letters _ c.letters-count.ensures (omega (arith, c.if-count-lt1.false)) c.if-count-gt-LETTERS.false c.all_capital.ensures
    c.if-all_capital.true (zeros_are _ c.all_from.ensures)

pub returns-else-all_capital : goal.returns-else-all_capital
returns-else-all_capital c =
    c.if-all_capital.false
    ∙ small_letters _ c.letters-count.ensures (omega (arith, c.if-count-lt1.false)) c.if-count-gt-LETTERS.false c.all_capital.ensures c.if-all_capital.false
