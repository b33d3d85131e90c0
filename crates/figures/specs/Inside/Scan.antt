-- What a scan of marks from a place on promises: "Figures of a statement run call figures of a loop body and back; open depth left falls."
-- Assumes nothing: these are definitions.
use Rattle.std.specs.Prelude.{◌≡◌, Bool, true, cond, List, ◌∷◌, ℕ, ◌+◌, ◌-◌, ◌≤◌, ltb, drop, length}
use Rattle.figures.specs.declared.Figures.{Figures}
use Rattle.figures.specs.Fragment.{Fragment}
use Rattle.figures.specs.Flat.{Mark, here, beyond, fragments, marks_nest}

-- what is read from the place i on
abbrev pub read_at : List Mark → ℕ → List Fragment
read_at ms i = fragments (drop i ms)

-- the fragment that starts at the place i
abbrev pub fragment_at : List Mark → ℕ → Fragment
fragment_at ms i = here (read_at ms i)

-- at the place i stands the mark m
abbrev pub MarkAt : List Mark → ℕ → Mark → Type 0
MarkAt ms i m = drop i ms ≡ m ∷ drop (i + 1) ms

-- whether the marks after a fragment nest, `opened` loops being open in it: its END closes one; with none open it goes to the end
abbrev pub nests_after : ℕ → List Mark → Bool
nests_after opened ms = cond (ltb 0 opened) (marks_nest (opened - 1) ms) true

-- It promises: the figures that it found are f, and `next` is the place after the END of the fragment that starts at `at`.
-- The whole nests just when what comes after does.
pub record Scanned (ms : List Mark) (at : ℕ) (f : Figures) (whole : Bool) (after : List Mark → Bool) (found : Figures) (next : ℕ) : Type 0 where
  pub exact : found ≡ f
  pub nests : whole ≡ after (drop next ms)
  pub behind : read_at ms next ≡ beyond (read_at ms at)
  pub low : at ≤ next
  pub high : next ≤ length ms
