-- WHAT A LINE SAYS IS TAKEN as its meaning is: the step by a line's kind, and the step by its meaning. Assumes nothing.
use Prim.Native.Nat.{ℕ, ◌≤◌}
use mathlib.Core.Path.{◌≡◌, refl}
use mathlib.Core.Bool.{true, ◌&&◌}
use mathlib.Core.List.{List}
use lib.Dec.{ltb, leb}
use lib.ListN.{length}
use borrow.Author.Tests.{leb-true}
use Rattle.reader.specs.Bytes.{all}
use Rattle.reader.proofs.Tests.{both_left, both_right}
use Rattle.line_values.specs.Inside.Line.{line_from, data_from}
use Rattle.language.specs.Script.{Meaning, comment, blank, process, set_ex, says, set_encode, set_stopbits, set_omit, set_lfext, fault}
use Rattle.language.specs.Meaning.{extension, is_capital}
use Rattle.language.specs.Inside.Right.{meaning_right}
use Rattle.language.specs.Draft as draft
use Rattle.compiler.specs.declared.drafting.Drafting.{Drafting}
use Rattle.compiler.specs.Inside.Drafting.{Step, Fronts, bytes_said, Takes, StepsSaid}
use Rattle.compiler.proofs.Writing.{told}

few_letters : (e : List ℕ) → extension e ≡ true → length e ≤ 3
unfolding extension
few_letters e h = leb-true (length e) 3 (both_right (ltb 0 (length e)) (leb (length e) 3) (both_left (ltb 0 (length e) && leb (length e) 3) (all is_capital e) h))

-- the length of the data is told by the line
pub bytes_told : (m : Meaning) → bytes_said (line_from m) ≡ length (data_from m)
unfolding line_from data_from
bytes_told comment = refl
bytes_told blank = refl
bytes_told process = refl
bytes_told set_ex = refl
bytes_told (says s) = (told 0 s).counts
bytes_told (set_encode b) = refl
bytes_told (set_stopbits two) = refl
bytes_told (set_omit bs) = refl
bytes_told (set_lfext e) = refl
bytes_told (fault f) = refl

module _ (row : ℕ) (lent : List ℕ) (w : Drafting) (r : Step) (w' : Drafting) where
  pub steps_on : (m : Meaning) → meaning_right m ≡ true → Fronts lent (data_from m) → StepsSaid row lent w r w' (line_from m)
      → Takes (λ st. draft.take_meaning row st m) w r w'
  unfolding line_from data_from draft.take_meaning meaning_right
  steps_on comment h f x = x
  steps_on blank h f x = x
  steps_on process h f x = x
  steps_on set_ex h f x = x
  steps_on (says s) h f x = x s refl f
  steps_on (set_encode b) h f x = x
  steps_on (set_stopbits two) h f x = x
  steps_on (set_omit bs) h f x = x bs refl f
  steps_on (set_lfext e) h f x = x e (few_letters e h) refl
  steps_on (fault n) h f x = λ st i. x
