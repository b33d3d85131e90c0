-- What the two functions of the scan ask and answer: "Figures of a statement run call figures of a loop body and back; open depth left falls."
-- Assumes nothing: these are definitions.
use Rattle.std.specs.Prelude.{◌≡◌, Bool, false, List, ◌∷◌, ℕ, ◌-◌, ◌≤◌, length, drop, Option, Some, None}
use Rattle.figures.specs.declared.Figures.{Figures}
use Rattle.figures.specs.Flat.{Mark, opens, deepest, marks_nest}
use Rattle.figures.specs.Figures.{looped, figures}
use Rattle.figures.specs.Inside.Scan.{fragment_at, nests_after, Scanned}
use Rattle.stretch.specs.declared.Ran.{Ran}

-- they ask that the places lie in the table, and that `left` of the eight loops are left
pub record Scannable (cells : List ℕ) (at end left : ℕ) : Type 0 where
  pub order : at ≤ end
  pub inside : end ≤ length cells
  pub few : left ≤ deepest

-- the loops that are open
abbrev pub opened : ℕ → ℕ
opened left = deepest - left

-- what an answer says: these figures, and the whole nests just when what comes after does; or the whole does not nest
abbrev pub Tells : List Mark → ℕ → Figures → Bool → (List Mark → Bool) → Option Ran → Type 0
Tells ms at f whole after (Some r) = Scanned ms at f whole after r.figures r.next
Tells ms at f whole after None = whole ≡ false

-- of a statement run
abbrev pub RunTells : List Mark → ℕ → ℕ → Option Ran → Type 0
RunTells ms at left = Tells ms at (figures (fragment_at ms at)) (marks_nest (opened left) (drop at ms)) (nests_after (opened left))

-- of LOOP n, whose body lies at the place `at`
abbrev pub BodyTells : List Mark → ℕ → ℕ → ℕ → Option Ran → Type 0
BodyTells ms at left n = Tells ms at (looped n (figures (fragment_at ms at))) (marks_nest (opened left) (opens n ∷ drop at ms)) (marks_nest (opened left))
