-- The cells that are no wait and no part of a loop, by their tags: the code's last arm. Assumes nothing.
use Prim.Native.Nat.{ℕ}
use mathlib.Core.Path.{◌≡◌, refl}
use mathlib.Core.List.{List, [], ◌∷◌}
use types.Run.{OneOf, miss}
use denote.Enum.Declared.{tag_of}
use Rattle.figures.specs.Flat.{plain}
use Rattle.language.specs.declared.Cell.{Cell}
use Rattle.language.specs.declared.Cell.TheVariants.{Nothing, Send, Loop, End, WaitTime, WaitData, WaitByte, WaitClock, WaitSignal, Rts, Log, Fchange, Pause, Resume, Nop, Unknown}
use Rattle.language.specs.Stretch.{mark_of}
use Rattle.language.specs.Table.{statement_of}
use Rattle.language.specs.contracts.Cell.{the_type}
use Rattle.stretch.specs.Marks.{cell_mark}

abbrev others : List ℕ
others = 0 ∷ 1 ∷ 9 ∷ 10 ∷ 11 ∷ 12 ∷ 13 ∷ 14 ∷ 15 ∷ []

pub other_plain : (c : Cell) → OneOf others (tag_of the_type c) → plain ≡ cell_mark c
unfolding cell_mark mark_of statement_of
other_plain Nothing h = refl
other_plain (Send s) h = refl
other_plain (Loop n) h = absurd (miss others 2 tt h)
other_plain End h = absurd (miss others 3 tt h)
other_plain (WaitTime n) h = absurd (miss others 4 tt h)
other_plain (WaitData s) h = absurd (miss others 5 tt h)
other_plain (WaitByte n) h = absurd (miss others 6 tt h)
other_plain (WaitClock k) h = absurd (miss others 7 tt h)
other_plain (WaitSignal l) h = absurd (miss others 8 tt h)
other_plain (Rts on) h = refl
other_plain (Log s) h = refl
other_plain Fchange h = refl
other_plain Pause h = refl
other_plain Resume h = refl
other_plain Nop h = refl
other_plain Unknown h = refl
