-- What is answered of a table, as a function that computes. Assumes nothing: these are definitions.
use Rattle.std.specs.Prelude.{cond, List, [], ◌∷◌, ℕ, ◌+◌, max, leb, Option, Some, None, Result, Ok, Err}
use Rattle.figures.specs.Flat.{Mark, fragment, marks_nest}
use Rattle.figures.specs.Cap.{limit}
use Rattle.figures.specs.Figures.{fragment_stretch}
use Rattle.language.specs.declared.Heads.{Heads}
use Rattle.stretch.specs.declared.StretchFault.{StretchFault}
use Rattle.stretch.specs.declared.StretchFault.TheVariants.{Over, Broken}
use Rattle.stretch.specs.Marks.{processes_of}

-- the stretch of a process, 4,097 standing for all over 4,096
abbrev pub stretch_in : List Mark → ℕ
stretch_in p = fragment_stretch (fragment p)

-- one process by itself, none where its loops do not nest
abbrev pub alone : List Mark → Option ℕ
alone p = cond (marks_nest 0 p) (Some (stretch_in p)) None

-- "The compiler reports the largest stretch of any process", `best` being that of those before;
-- "stretch over 4,096: lowest process number, from 1"
unfoldable pub measured_from : ℕ → ℕ → List (List Mark) → Result ℕ StretchFault
measured_from number best [] = Ok best
measured_from number best (p ∷ ps) =
    cond (marks_nest 0 p)
    (cond (leb (stretch_in p) limit) (measured_from (number + 1) (max best (stretch_in p)) ps) (Err (Over number)))
    (Err Broken)

-- what is answered of a table
abbrev pub measured : List ℕ → Heads → Result ℕ StretchFault
measured cells heads = measured_from 1 0 (processes_of cells heads)
