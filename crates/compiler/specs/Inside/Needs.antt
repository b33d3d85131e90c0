-- What the compiler asks of a statement's cell. Assumes nothing: these are definitions.
use Rattle.std.specs.Prelude.{ℕ}
use Rattle.language.specs.declared.Cell.{Cell}
use Rattle.language.specs.declared.Cell.TheVariants.{Send, WaitData, Log}
use Rattle.language.specs.Script.{Shape, opens, closes, stays}
use Rattle.language.specs.Cell.{span}
use Rattle.language.specs.View as views
use Rattle.language.specs.View.{View, view, sends, awaits, logs, pauses, other, none}

-- how many bytes of data a cell has, by its view
abbrev pub count_by : View → ℕ
count_by (sends s) = s.count
count_by (awaits s) = s.count
count_by (logs s) = s.count
count_by (views.opens n) = 0
count_by views.closes = 0
count_by (pauses on) = 0
count_by other = 0
count_by none = 0

abbrev pub count_in : Cell → ℕ
count_in c = count_by (view c)

-- what it does to the open loops
abbrev pub shape_by : View → Shape
shape_by (sends s) = stays
shape_by (awaits s) = stays
shape_by (logs s) = stays
shape_by (views.opens n) = opens
shape_by views.closes = closes
shape_by (pauses on) = stays
shape_by other = stays
shape_by none = stays

abbrev pub shape_in : Cell → Shape
shape_in c = shape_by (view c)

-- the cell with its data at a place of the pool
abbrev pub placed_by : ℕ → Cell → View → Cell
placed_by at c (sends s) = Send (span at s.count)
placed_by at c (awaits s) = WaitData (span at s.count)
placed_by at c (logs s) = Log (span at s.count)
placed_by at c (views.opens n) = c
placed_by at c views.closes = c
placed_by at c (pauses on) = c
placed_by at c other = c
placed_by at c none = c

abbrev pub placed_at : ℕ → Cell → Cell
placed_at at c = placed_by at c (view c)
