-- The line of a word, by the cell that it says. Assumes nothing.
use Prim.Native.Nat.{ℕ, ◌≤◌}
use mathlib.Core.Path.{◌≡◌, refl, sym, ap, ◌∙◌}
use mathlib.Core.List.{List, [], ◌∷◌}
use native.Mathlib.Omega.{arith}
use types.Run.{OneOf, miss}
use denote.Enum.Declared.{tag_of}
use borrow.Author.Tests.{leb-true}
use Rattle.reader.specs.Ascii.{ascii}
use Rattle.language.specs.declared.Level.{Level}
use Rattle.language.specs.declared.Cell.{Cell}
use Rattle.language.specs.declared.Cell.TheVariants.{Nothing, Send, Loop, End, WaitTime, WaitData, WaitByte, WaitClock, WaitSignal, Rts, Log, Fchange, Pause, Resume, Nop, Unknown}
use Rattle.language.specs.contracts.Cell.{the_type}
use Rattle.language.specs.Listing.{line_for}
use Rattle.language.specs.Cell.{decoded}
use Rattle.language.specs.Inside.Right.{cell_right}
use Rattle.language.specs.Table.{statement_of}
use Rattle.accepted.proofs.CellsFit.{known_cell}
use Rattle.lister.specs.Inside.Names.{bare_name}
use Rattle.lister.specs.Inside.Printed.{FitsListing, Printed, word_line}
use Rattle.lister.proofs.Printing.{printed_is}

module _ (pool : List ℕ) (w : ℕ) {x c : Cell} (told : x ≡ decoded w) (is : x ≡ c) where
  line_is : line_for (statement_of pool c) ≡ word_line pool w
  line_is = ap (λ (k : Cell). line_for (statement_of pool k)) (sym is ∙ told)

  pub word_room : {at : ℕ} → FitsListing at (word_line pool w) → FitsListing at (line_for (statement_of pool c))
  word_room h = rw line_is h

  pub word_printed : {d e : List ℕ} {at r : ℕ} → Printed (line_for (statement_of pool c)) d at r e → Printed (word_line pool w) d at r e
  word_printed p = printed_is line_is p

pub signal_few : (w : ℕ) {x : Cell} {l : Level} → x ≡ decoded w → x ≡ WaitSignal l → l.signal ≤ 4
unfolding cell_right
signal_few w {x} {l} told is = leb-true l.signal 4 (known_cell w told is (λ u. let z : ◌≡◌ {A = ℕ} 0 1 = cc in omega arith))

-- ---- the cells that a match leaves to its last arm, by their tags

-- no name alone but NOP
abbrev unnamed : List ℕ
unnamed = 0 ∷ 1 ∷ 2 ∷ 4 ∷ 5 ∷ 6 ∷ 7 ∷ 8 ∷ 9 ∷ 10 ∷ 14 ∷ 15 ∷ []

pub no_name : (c : Cell) → OneOf unnamed (tag_of the_type c) → ascii "#NOP" ≡ bare_name c
unfolding bare_name
no_name Nothing h = refl
no_name (Send s) h = refl
no_name (Loop n) h = refl
no_name End h = absurd (miss unnamed 3 tt h)
no_name (WaitTime n) h = refl
no_name (WaitData s) h = refl
no_name (WaitByte n) h = refl
no_name (WaitClock v) h = refl
no_name (WaitSignal l) h = refl
no_name (Rts on) h = refl
no_name (Log s) h = refl
no_name Fchange h = absurd (miss unnamed 11 tt h)
no_name Pause h = absurd (miss unnamed 12 tt h)
no_name Resume h = absurd (miss unnamed 13 tt h)
no_name Nop h = refl
no_name Unknown h = refl

-- nothing besides a name
abbrev bare : List ℕ
bare = 0 ∷ 3 ∷ 11 ∷ 12 ∷ 13 ∷ 14 ∷ 15 ∷ []

pub name_alone : (pool : List ℕ) (c : Cell) → OneOf bare (tag_of the_type c)
    → bare_name c ≡ line_for (statement_of pool c)
unfolding bare_name line_for statement_of
name_alone pool Nothing h = refl
name_alone pool (Send s) h = absurd (miss bare 1 tt h)
name_alone pool (Loop n) h = absurd (miss bare 2 tt h)
name_alone pool End h = refl
name_alone pool (WaitTime n) h = absurd (miss bare 4 tt h)
name_alone pool (WaitData s) h = absurd (miss bare 5 tt h)
name_alone pool (WaitByte n) h = absurd (miss bare 6 tt h)
name_alone pool (WaitClock v) h = absurd (miss bare 7 tt h)
name_alone pool (WaitSignal l) h = absurd (miss bare 8 tt h)
name_alone pool (Rts on) h = absurd (miss bare 9 tt h)
name_alone pool (Log s) h = absurd (miss bare 10 tt h)
name_alone pool Fchange h = refl
name_alone pool Pause h = refl
name_alone pool Resume h = refl
name_alone pool Nop h = refl
name_alone pool Unknown h = refl
