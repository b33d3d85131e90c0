-- What each part of the printer writes: bytes from a place on, as far as the slice goes, and the place after them.
use Rattle.std.specs.Prelude.{ℕ, ◌+◌, ◌≤◌, ◌≡◌, Bool, cond, List, [], ◌∷◌, ◌++◌, length}
use Rattle.std.proofs.lemmas.List.Edits.{sets}
use Rattle.std.proofs.Math.Seq.{slice}
use Rattle.language.specs.declared.Heads.{Heads}
use Rattle.language.specs.Script.{Item, next}
use Rattle.language.specs.Listing.{line_for, item_lines, with_line_ends, setting_lines, body_lines}
use Rattle.language.specs.Cell.{decoded}
use Rattle.language.specs.Table.{statement_of, items_of, body_from, settings_of}
use Rattle.language.specs.Limits.{listing_limit}

-- what is written from a place on stays within the longest listing
pub record FitsListing (at : ℕ) (bs : List ℕ) : Type 0 where
  pub fits : at + length bs ≤ listing_limit

-- `bs` written into `d` from `at` on: `r` is the place after them, and `e` what the slice then holds; a byte after its end is left out
pub record Printed (bs d : List ℕ) (at r : ℕ) (e : List ℕ) : Type 0 where
  pub place : r ≡ at + length bs
  pub written : e ≡ sets d at bs

-- "CR LF after each line"
abbrev pub line_ended : List ℕ → List ℕ
line_ended l = l ++ 13 ∷ 10 ∷ []

-- the line of a word
abbrev pub word_line : List ℕ → ℕ → List ℕ
word_line pool w = line_for (statement_of pool (decoded w))

-- the lines of some items
unfoldable pub printed_items : List Item → List ℕ
printed_items is = with_line_ends (item_lines is)

-- the lines of the cells from one place to another
abbrev pub printed_cells : List ℕ → List ℕ → ℕ → ℕ → List ℕ
printed_cells pool ws i e = printed_items (items_of pool (slice i e ws))

-- the processes after the first, which end at these places, the first of them beginning at `i`
unfoldable pub further : List ℕ → List ℕ → ℕ → List ℕ → List Item
further pool ws i [] = []
further pool ws i (e ∷ es) = next ∷ (items_of pool (slice i e ws) ++ further pool ws e es)

-- "and the first too if it is empty and others follow"
abbrev pub printed_first : Bool → List ℕ
printed_first is = cond is (printed_items (next ∷ [])) []

-- the lines of the settings
unfoldable pub printed_settings : Heads → List ℕ
printed_settings h = with_line_ends (setting_lines (settings_of h))

-- the lines of the processes that end at these places
unfoldable pub printed_body : List ℕ → List ℕ → List ℕ → List ℕ
printed_body pool ws es = with_line_ends (body_lines (body_from pool ws 0 es))
