-- `step_by` meets its contract: each way is a case of `step_of`. Assumes nothing.
use mathlib.Core.Path.{sym, ◌∙◌}
use native.Mathlib.Omega.{arith}
use Rattle.reader.proofs.Digits.{told_digit}
use Rattle.hex_data.proofs.Pairs.{small, step_pair, step_first, step_lone, step_parts, step_refused}
use Rattle.hex_data.proofs.step_by.Goals as goal

pub overflow_add-result : goal.overflow_add-result
overflow_add-result c =
    let h = small c.in-Some-half.is c.requires in
    let l = (told_digit _ (sym c.in-Some.is ∙ c.digit.ensures)).1 in
    omega (arith, h, l)

pub returns-in-Some-half : goal.returns-in-Some-half
returns-in-Some-half c = step_pair _ c.in-Some-half.is (small c.in-Some-half.is c.requires) (sym c.in-Some.is ∙ c.digit.ensures)

pub returns-in-None-half : goal.returns-in-None-half
returns-in-None-half c = step_first _ c.in-None-half.is (sym c.in-Some.is ∙ c.digit.ensures)

pub returns-in-Some-half-2 : goal.returns-in-Some-half-2
returns-in-Some-half-2 c =
    step_lone _ c.in-Some-half-2.is (small c.in-Some-half-2.is c.requires) (sym c.in-None.is ∙ c.digit.ensures) (sym c.blank.ensures ∙ c.if-blank.true)

pub returns-in-None-half-2 : goal.returns-in-None-half-2
returns-in-None-half-2 c = step_parts _ c.in-None-half-2.is (sym c.in-None.is ∙ c.digit.ensures) (sym c.blank.ensures ∙ c.if-blank.true)

pub returns-in-None-2 : goal.returns-in-None-2
returns-in-None-2 c = step_refused _ _ (sym c.in-None-2.is ∙ c.digit.ensures) (sym c.blank.ensures ∙ c.if-blank.false)
