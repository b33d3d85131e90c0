-- The processes of a table, each as the marks of its cells. Assumes nothing: these are definitions.
use Rattle.std.specs.Prelude.{List, [], ◌∷◌, map, ℕ, get_or, take}
use Rattle.std.proofs.Math.Seq.{slice}
use Rattle.figures.specs.Flat.{Mark}
use Rattle.language.specs.declared.Cell.{Cell}
use Rattle.language.specs.declared.Heads.{Heads}
use Rattle.language.specs.Cell.{decoded}
use Rattle.language.specs.Stretch.{mark_of}
use Rattle.language.specs.Table.{statement_of}

-- "Sure rests are .." is said of statements, so a cell is read as its statement; the data do not matter for it
unfoldable pub cell_mark : Cell → Mark
cell_mark c = mark_of (statement_of [] c)

-- the mark of a cell's word
abbrev pub word_mark : ℕ → Mark
word_mark w = cell_mark (decoded w)

-- the marks of the cells from one place up to another
unfoldable pub marks_between : List ℕ → ℕ → ℕ → List Mark
marks_between cells from end = map word_mark (slice from end cells)

-- the processes that end at these places, the first of them beginning at `from`, each other one where the one before ends
unfoldable pub processes_from : List ℕ → ℕ → List ℕ → List (List Mark)
processes_from cells from [] = []
processes_from cells from (end ∷ ends) = marks_between cells from end ∷ processes_from cells end ends

-- the processes of a table
unfoldable pub processes_of : List ℕ → Heads → List (List Mark)
processes_of cells heads = processes_from cells 0 (take heads.processes heads.ends)

-- the place where the process after i others begins, and the one where it stops
abbrev pub begins_at : Heads → ℕ → ℕ
begins_at heads i = get_or (0 ∷ heads.ends) i 0

-- the place after its last cell
abbrev pub ends_at : Heads → ℕ → ℕ
ends_at heads i = get_or heads.ends i 0

-- the marks of the cells before a place
abbrev pub marks_to : List ℕ → ℕ → List Mark
marks_to cells end = map word_mark (take end cells)
