-- What an answer says of a table, in terms of the written-out form alone: "The reported count equals the longest run in the
-- written-out definition." Assumes nothing: these are definitions.
use Rattle.std.specs.Prelude.{◌≡◌, true, false, List, [], ◌⊎◌, ℕ, ◌+◌, ◌≤◌, ◌<◌, length, get_or, Result, Ok, Err}
use Rattle.figures.specs.Flat.{Mark, fragment, marks_nest}
use Rattle.figures.specs.Stretch as figures
use Rattle.figures.specs.Cap.{limit}
use Rattle.figures.specs.Stretch.{Stretch}
use Rattle.language.specs.declared.Heads.{Heads}
use Rattle.stretch.specs.declared.StretchFault.{StretchFault}
use Rattle.stretch.specs.declared.StretchFault.TheVariants.{Over, Broken}
use Rattle.stretch.specs.Marks.{processes_of}

-- the process after i others
abbrev pub process_at : List (List Mark) → ℕ → List Mark
process_at ps i = get_or ps i []

-- a process whose loops nest and whose stretch, at most 4,096, is k
pub record HasStretch (p : List Mark) (k : ℕ) : Type 0 where
  pub nested : marks_nest 0 p ≡ true
  pub exact : Stretch (fragment p) k
  pub low : k ≤ limit

-- one whose stretch is at most k
pub record AtMost (p : List Mark) (k : ℕ) : Type 0 where
  pub stretch : ℕ
  pub fits : HasStretch p stretch
  pub most : stretch ≤ k

-- k is the stretch of one of the first n processes
pub record Reached (ps : List (List Mark)) (n k : ℕ) : Type 0 where
  pub place : ℕ
  pub inside : place < n
  pub fits : HasStretch (process_at ps place) k

-- "the largest stretch of any process", of the first n: none has a larger one, and one has it, or there is none
pub record Most (ps : List (List Mark)) (n k : ℕ) : Type 0 where
  pub each : (i : ℕ) → i < n → AtMost (process_at ps i) k
  pub reached : (k ≡ 0) ⊎ Reached ps n k

-- "stretch over 4,096: lowest process number, from 1": all processes before it fit
pub record Exceeds (ps : List (List Mark)) (number : ℕ) : Type 0 where
  pub place : ℕ
  pub numbered : number ≡ place + 1
  pub inside : place < length ps
  pub earlier : (i : ℕ) → i < place → AtMost (process_at ps i) limit
  pub nested : marks_nest 0 (process_at ps place) ≡ true
  pub over : figures.Over (fragment (process_at ps place)) limit

-- a process whose loops do not nest, or nest deeper than 8: all processes before it fit
pub record Breaks (ps : List (List Mark)) : Type 0 where
  pub place : ℕ
  pub inside : place < length ps
  pub earlier : (i : ℕ) → i < place → AtMost (process_at ps i) limit
  pub strays : marks_nest 0 (process_at ps place) ≡ false

-- what an answer says of some processes
unfoldable pub AnswerSays : List (List Mark) → Result ℕ StretchFault → Type 0
AnswerSays ps (Ok k) = Most ps (length ps) k
AnswerSays ps (Err (Over number)) = Exceeds ps number
AnswerSays ps (Err Broken) = Breaks ps

-- what it says of a table
abbrev pub Reported : List ℕ → Heads → Result ℕ StretchFault → Type 0
Reported cells heads r = AnswerSays (processes_of cells heads) r
