-- How many lines the listing of a table's script has, read off the heads. Assumes nothing.
use Prim.Native.Nat.{ℕ, suc, ◌+◌, ◌≤◌, ◌<◌}
use mathlib.Core.Path.{◌≡◌, refl, sym, ap, ◌∙◌}
use mathlib.Core.Bool.{Bool, true, false, ◌&&◌, not}
use mathlib.Core.List.{List, [], ◌∷◌}
use native.Mathlib.Omega.{arith}
use lib.Dec.{ltb, eqb}
use lib.ListN.{length, get_or, length-append}
use borrow.Author.Tests.{lt-ltb, ne_eqb}
use Rattle.reader.specs.Ascii.{ascii}
use Rattle.reader.specs.Bytes.{same}
use Rattle.reader.proofs.Tests.{and_false}
use Rattle.language.specs.Script.{Encode, unset, byte, Settings, Item, does, next, Script, data_of}
use Rattle.language.specs.Listing.{line_if, encode_lines, setting_lines, item_lines, body_lines, listed_lines}
use Rattle.language.specs.Right.{nexts_in}
use Rattle.language.specs.Table.{words_from, ends_from, encodes}
use Rattle.accepted.specs.Inside.Heads.{count_if}

-- a list is not empty
abbrev pub filled : List ℕ → Bool
filled [] = false
filled (b ∷ l) = true

-- ---- the settings

when_length : (t : Bool) (l : List ℕ) → length (line_if t l) ≡ count_if t
when_length true l = refl
when_length false l = refl

encode_length : (e : Encode) → length (encode_lines e) ≡ count_if (encodes e)
unfolding encode_lines
encode_length unset = refl
encode_length (byte b) = refl

pub some_omit : (l : List ℕ) → not (same l []) ≡ ltb 0 (length l)
unfolding same
some_omit [] = refl
some_omit (b ∷ l) = let h : 0 < suc (length l) = omega arith in sym (lt-ltb 0 (suc (length l)) h)

pub settings_length : (s : Settings) → length (setting_lines s)
    ≡ count_if (encodes s.encode) + (count_if s.two_stopbits + (count_if (ltb 0 (length s.omit)) + count_if (not (same s.lfext (ascii "LOG")))))
unfolding setting_lines
settings_length s =
    rw (
      length-append,
      length-append,
      length-append,
      encode_length s.encode,
      when_length s.two_stopbits,
      when_length (not (same s.omit [])),
      when_length (not (same s.lfext (ascii "LOG"))),
      some_omit s.omit,
    )

-- ---- the body

-- a cell for each statement, an end for each process
pub items_count : (is : List Item) (at : ℕ) → length is ≡ length (words_from at is) + nexts_in is
unfolding words_from nexts_in
items_count [] at = refl
items_count (does s ∷ is) at = omega (arith, items_count is (at + length (data_of s)))
items_count (next ∷ is) at = omega (arith, items_count is at)

pub ends_count : (is : List Item) (i : ℕ) → length (ends_from i is) ≡ nexts_in is + 1
unfolding ends_from nexts_in
ends_count [] i = refl
ends_count (does s ∷ is) i = ends_count is (i + 1)
ends_count (next ∷ is) i = omega (arith, ends_count is i)

abbrev starts_next : List Item → Bool
starts_next [] = false
starts_next (does s ∷ is) = false
starts_next (next ∷ is) = true

lines_length : (is : List Item) → length (item_lines is) ≡ length is
unfolding item_lines
lines_length [] = refl
lines_length (i ∷ is) = ap suc (lines_length is)

body_length : (is : List Item) → length (body_lines is) ≡ count_if (starts_next is) + length is
unfolding body_lines
body_length [] = refl
body_length (does s ∷ is) = lines_length (does s ∷ is) ∙ omega arith
body_length (next ∷ is) = let e = lines_length (next ∷ is) in omega arith

-- the first end is that of an empty process exactly if a further process begins at once
first_end : (is : List Item) (i : ℕ) → i ≤ get_or (ends_from i is) 0 0
unfolding ends_from
first_end [] i = omega arith
first_end (does s ∷ is) i = omega (arith, first_end is (i + 1))
first_end (next ∷ is) i = omega arith

first_empty_lem : (is : List Item) → starts_next is ≡ (ltb 1 (length (ends_from 0 is)) && eqb (get_or (ends_from 0 is) 0 0) 0)
unfolding ends_from
first_empty_lem [] = refl
first_empty_lem (does s ∷ is) =
    let l = first_end is (0 + 1) in
    let n : get_or (ends_from (0 + 1) is) 0 0 ≡ 0 → ⊥ = omega arith in
    sym (rw (ne_eqb (get_or (ends_from (0 + 1) is) 0 0) 0 n) (and_false (ltb 1 (length (ends_from (0 + 1) is)))))
first_empty_lem (next ∷ is) =
    let e = ends_count is 0 in
    let l : 1 < suc (length (ends_from 0 is)) = omega arith in
    sym (rw (lt-ltb 1 (suc (length (ends_from 0 is))) l))

pub lines_count : (s : Script) → length (listed_lines s)
    ≡ length (setting_lines s.settings) + (count_if (ltb 1 (length (ends_from 0 s.body)) && eqb (get_or (ends_from 0 s.body) 0 0) 0) + length s.body)
unfolding listed_lines
lines_count s = rw (length-append, body_length s.body, first_empty_lem s.body)
