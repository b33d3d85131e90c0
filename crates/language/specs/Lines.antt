-- Document 01, "Lines": the lines of a text.
use Rattle.std.specs.Prelude.{ℕ, cond, List, [], ◌∷◌, eqb}

-- "one CR at its end is dropped"
unfoldable pub drop_cr : List ℕ → List ℕ
drop_cr [] = []
drop_cr (b ∷ []) = cond (eqb b 13) [] (b ∷ [])
drop_cr (b ∷ c ∷ l) = b ∷ drop_cr (c ∷ l)

-- a byte that ends no line stands in front of the first of the lines after it, or begins one
unfoldable pub in_front : ℕ → List (List ℕ) → List (List ℕ)
in_front b [] = (b ∷ []) ∷ []
in_front b (l ∷ ls) = (b ∷ l) ∷ ls

-- "A line ends at LF or at the end of the text"; "A text that ends in LF has no further line"
unfoldable pub raw_lines : List ℕ → List (List ℕ)
raw_lines [] = []
raw_lines (b ∷ s) = cond (eqb b 10) ([] ∷ raw_lines s) (in_front b (raw_lines s))

-- the CR dropped from each line
unfoldable pub each_line : List (List ℕ) → List (List ℕ)
each_line [] = []
each_line (l ∷ ls) = drop_cr l ∷ each_line ls

-- the lines of a text, with no LF and without the CR at their end
unfoldable pub lines_of : List ℕ → List (List ℕ)
lines_of s = each_line (raw_lines s)
