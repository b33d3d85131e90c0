-- The cells that say a statement without data, by their tags: the code's last arm. Assumes nothing.
use Prim.Native.Nat.{ℕ}
use mathlib.Core.Path.{◌≡◌, refl}
use mathlib.Core.Bool.{true}
use mathlib.Core.List.{List, [], ◌∷◌}
use types.Run.{OneOf, miss}
use denote.Enum.Declared.{tag_of}
use Rattle.language.specs.declared.Cell.{Cell}
use Rattle.language.specs.declared.Cell.TheVariants.{Nothing, Send, Loop, End, WaitTime, WaitData, WaitByte, WaitClock, WaitSignal, Rts, Log, Fchange, Pause, Resume, Nop, Unknown}
use Rattle.language.specs.contracts.Cell.{the_type}
use Rattle.accepted.specs.Inside.Cells.{cell_fits, bytes_of_cell}

-- a cell fits at every place, and has no bytes
pub record Dataless (pool : List ℕ) (at : ℕ) (c : Cell) : Type 0 where
  pub fits : cell_fits pool at c ≡ true
  pub none : bytes_of_cell c ≡ 0

abbrev others : List ℕ
others = 2 ∷ 3 ∷ 4 ∷ 6 ∷ 7 ∷ 8 ∷ 9 ∷ 11 ∷ 12 ∷ 13 ∷ 14 ∷ []

pub dataless : (pool : List ℕ) (at : ℕ) (c : Cell) → OneOf others (tag_of the_type c) → Dataless pool at c
unfolding cell_fits bytes_of_cell
dataless pool at Nothing h = absurd (miss others 0 tt h)
dataless pool at (Send s) h = absurd (miss others 1 tt h)
dataless pool at (Loop n) h = record { fits = refl; none = refl }
dataless pool at End h = record { fits = refl; none = refl }
dataless pool at (WaitTime n) h = record { fits = refl; none = refl }
dataless pool at (WaitData s) h = absurd (miss others 5 tt h)
dataless pool at (WaitByte n) h = record { fits = refl; none = refl }
dataless pool at (WaitClock k) h = record { fits = refl; none = refl }
dataless pool at (WaitSignal l) h = record { fits = refl; none = refl }
dataless pool at (Rts on) h = record { fits = refl; none = refl }
dataless pool at (Log s) h = absurd (miss others 10 tt h)
dataless pool at Fchange h = record { fits = refl; none = refl }
dataless pool at Pause h = record { fits = refl; none = refl }
dataless pool at Resume h = record { fits = refl; none = refl }
dataless pool at Nop h = record { fits = refl; none = refl }
dataless pool at Unknown h = absurd (miss others 15 tt h)
