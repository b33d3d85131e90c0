-- What the match of a column leaves to its last arm, by the tags: the column is 1. Assumes nothing.
use Prim.Native.Nat.{ℕ}
use mathlib.Core.Path.{◌≡◌, refl}
use mathlib.Core.List.{List, [], ◌∷◌}
use types.Run.{OneOf, miss}
use denote.Enum.Declared.{tag_of}
use Rattle.language.specs.declared.TextFault.{TextFault}
use Rattle.language.specs.declared.TextFault.TheVariants.{TextTooLong, LineTooLong, TooManyLines, NoSuchName, BadRest, TooMuchData, TooManyOmits, TooManyLoops, EndWithoutLoop, LoopLeftOpen, TooManyProcesses, StretchTooLong}
use Rattle.language.specs.contracts.TextFault as faults
use Rattle.language.specs.declared.Cell.{Cell}
use Rattle.language.specs.declared.Cell.TheVariants.{Nothing, Send, Loop, End, WaitTime, WaitData, WaitByte, WaitClock, WaitSignal, Rts, Log, Fchange, Pause, Resume, Nop, Unknown}
use Rattle.language.specs.Script.{stays}
use Rattle.language.specs.Column.{column_in}
use Rattle.compiler.specs.Inside.Needs.{shape_in}

-- all faults but those with a column of their own
abbrev first : List ℕ
first = 2 ∷ 3 ∷ 5 ∷ 6 ∷ 7 ∷ 8 ∷ 9 ∷ 10 ∷ []

pub other_first : (l : List ℕ) (f : TextFault) → OneOf first (tag_of faults.the_type f) → 1 ≡ column_in l f
unfolding column_in
other_first l TextTooLong h = absurd (miss first 0 tt h)
other_first l LineTooLong h = absurd (miss first 1 tt h)
other_first l TooManyLines h = refl
other_first l NoSuchName h = refl
other_first l BadRest h = absurd (miss first 4 tt h)
other_first l TooMuchData h = refl
other_first l TooManyOmits h = refl
other_first l TooManyLoops h = refl
other_first l EndWithoutLoop h = refl
other_first l LoopLeftOpen h = refl
other_first l TooManyProcesses h = refl
other_first l StretchTooLong h = absurd (miss first 11 tt h)

-- all cells that neither open a loop nor close one
pub other_stays : (c : Cell) → ((n : ℕ) → c ≡ Loop n → ⊥) → (c ≡ End → ⊥) → shape_in c ≡ stays
other_stays Nothing l e = refl
other_stays (Send s) l e = refl
other_stays (Loop n) l e = absurd (l n refl)
other_stays End l e = absurd (e refl)
other_stays (WaitTime n) l e = refl
other_stays (WaitData s) l e = refl
other_stays (WaitByte n) l e = refl
other_stays (WaitClock k) l e = refl
other_stays (WaitSignal s) l e = refl
other_stays (Rts on) l e = refl
other_stays (Log s) l e = refl
other_stays Fchange l e = refl
other_stays Pause l e = refl
other_stays Resume l e = refl
other_stays Nop l e = refl
other_stays Unknown l e = refl
