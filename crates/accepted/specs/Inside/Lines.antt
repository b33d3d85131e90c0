-- The same test as the code goes through it: one pass over the cells in use, and the heads.
use Rattle.std.specs.Prelude.{ℕ, ◌+◌, ◌-◌, Bool, ◌&&◌, List, leb, is_ok}
use Rattle.language.specs.declared.Heads.{Heads}
use Rattle.language.specs.Limits.{lines_limit}
use Rattle.stretch.specs.Inside.Measured.{measured}
use Rattle.accepted.specs.Inside.Heads.{in_use, ends_right, settings_fit, count_if, first_empty, settings_in}
use Rattle.accepted.specs.Inside.Cells.{cells_fit}

-- the cells in use fit their data, and what is not in use is zero
abbrev pub cells_right : List ℕ → List ℕ → Heads → Bool
cells_right cells pool h = cells_fit (in_use h) cells pool h.used

-- how many lines the listing of a table has
unfoldable pub lines_in : Heads → ℕ
lines_in h = settings_in h + (count_if (first_empty h) + (in_use h + (h.processes - 1)))

-- all but the nesting and the stretch
unfoldable pub fits : List ℕ → List ℕ → Heads → Bool
fits cells pool h = ends_right h && (cells_right cells pool h && (settings_fit h && leb (lines_in h) lines_limit))

-- and the nesting and the stretch
unfoldable pub table_passes : List ℕ → List ℕ → Heads → Bool
table_passes cells pool h = fits cells pool h && is_ok (measured cells h)
