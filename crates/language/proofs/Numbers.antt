-- NO TWO FAULTS OF A TEXT HAVE ONE NUMBER, and the numbers are document 01's. Assumes nothing.
use Prim.Native.Nat.{ℕ}
use mathlib.Core.Path.{◌≡◌, refl, sym, ap, ◌∙◌}
use mathlib.Core.Bool.{cond}
use mathlib.Core.List.{[], ◌∷◌, map}
use lib.Dec.{eqb}
use Rattle.language.specs.declared.TextFault.{TextFault}
use Rattle.language.specs.declared.TextFault.TheVariants.{TextTooLong, LineTooLong, TooManyLines, NoSuchName, BadRest, TooMuchData, TooManyOmits, TooManyLoops, EndWithoutLoop, LoopLeftOpen, TooManyProcesses, StretchTooLong}
use Rattle.language.specs.Answer.{fault_number}

-- document 01's table, from its first row on
the_numbers : map fault_number (TextTooLong ∷ LineTooLong ∷ TooManyLines ∷ NoSuchName ∷ BadRest ∷ TooMuchData ∷ TooManyOmits ∷ TooManyLoops ∷ EndWithoutLoop ∷ LoopLeftOpen ∷ TooManyProcesses ∷ StretchTooLong ∷ []) ≡ 12 ∷ 1 ∷ 2 ∷ 3 ∷ 4 ∷ 5 ∷ 10 ∷ 6 ∷ 7 ∷ 8 ∷ 9 ∷ 11 ∷ []
unfolding fault_number
the_numbers = refl

-- the fault of a number
abbrev fault_of : ℕ → TextFault
fault_of n =
    cond (eqb n 12) TextTooLong
    (cond (eqb n 1) LineTooLong
    (cond (eqb n 2) TooManyLines
    (cond (eqb n 3) NoSuchName
    (cond (eqb n 4) BadRest
    (cond (eqb n 5) TooMuchData
    (cond (eqb n 10) TooManyOmits
    (cond (eqb n 6) TooManyLoops
    (cond (eqb n 7) EndWithoutLoop
    (cond (eqb n 8) LoopLeftOpen
    (cond (eqb n 9) TooManyProcesses StretchTooLong))))))))))

told : (f : TextFault) → fault_of (fault_number f) ≡ f
unfolding fault_number
told TextTooLong = refl
told LineTooLong = refl
told TooManyLines = refl
told NoSuchName = refl
told BadRest = refl
told TooMuchData = refl
told TooManyOmits = refl
told TooManyLoops = refl
told EndWithoutLoop = refl
told LoopLeftOpen = refl
told TooManyProcesses = refl
told StretchTooLong = refl

pub fault_numbers_differ : (f g : TextFault) → fault_number f ≡ fault_number g → f ≡ g
fault_numbers_differ f g e = sym (told f) ∙ ap fault_of e ∙ told g
