-- What the code's draft is of the definition's, and what a step leaves of it. Assumes nothing: these are definitions.
use Rattle.std.specs.Prelude.{ℕ, ◌+◌, ◌≤◌, ◌<◌, ◌≡◌, Bool, true, false, Result, Ok, Err, Option, Some, None, List, [], ◌∷◌, ◌++◌, length, take}
use Rattle.std.proofs.lemmas.List.Edits.{sets}
use Rattle.language.specs.declared.Cell.{Cell}
use Rattle.language.specs.declared.TextFault.{TextFault}
use Rattle.language.specs.Limits.{cell_places, pool_places, process_places, loop_places}
use Rattle.language.specs.Script.{Statement, set_encode, set_stopbits, set_lfext, Script, Shape, data_of}
use Rattle.language.specs.Draft as draft
use Rattle.language.specs.Draft.{Draft, draft, Nested, now, broken, nest, LineTaken, going, stop, take_statement, take_process, take_omit}
use Rattle.language.specs.Table.{padded, cell_for, words_from, pool_of, ends_from, heads_of}
use Rattle.line_values.specs.declared.Line.{Line}
use Rattle.line_values.specs.declared.Line.TheVariants.{Comment, Blank, Process, Ex, Says, Encode, Stopbits, Omit, Lfext}
use Rattle.line_values.specs.Inside.Line.{letters_from}
use Rattle.compiler.specs.declared.drafting.Drafting.{Drafting}
use Rattle.compiler.specs.declared.drafting.Stop.{Stop}
use Rattle.compiler.specs.Inside.Needs.{count_in}

-- what a step hands back: the lines go on, or they stop
abbrev pub Step : Type 0
Step = Result (Unit {0}) Stop

-- they stop at a fault, with the line that it names
abbrev pub stopped : TextFault → ℕ → Step
stopped f row = Err (record { fault = f; row = row })

-- the script so far
abbrev pub script_in : Draft → Script
script_in st = record { settings = st.settings; body = st.body }

-- the lines of the open loops, the outermost first
unfoldable pub stacked : List ℕ → List ℕ
stacked [] = []
stacked (l ∷ ls) = stacked ls ++ l ∷ []

-- the line of the innermost
abbrev pub first_of : List ℕ → Option ℕ
first_of [] = None
first_of (l ∷ ls) = Some l

-- what the code has is the draft's
pub record IsDraft (st : Draft) (w : Drafting) : Type 0 where
  pub counted : w.counted ≡ st.counted
  pub written : w.written ≡ length (words_from 0 st.body)
  pub opened : w.opened ≡ length st.loops
  pub long : length w.loops ≡ loop_places
  pub loops : take (length st.loops) w.loops ≡ stacked st.loops
  pub begun : w.begun ≡ st.begun
  pub heads : w.table.heads ≡ heads_of (script_in st)
  pub used : st.used ≡ length (pool_of st.body)
  pub count : st.count ≡ length (ends_from 0 st.body)
  pub words : w.table.cells ≡ padded cell_places (words_from 0 st.body)
  pub bytes : w.table.pool ≡ padded pool_places (pool_of st.body)

-- what a step hands back is what the definition says: the lines go on from there, or they stop
abbrev pub Took : LineTaken → Step → Drafting → Type 0
Took (going st) r w = (r ≡ Ok tt) × IsDraft st w
Took (stop f row) r w = r ≡ stopped f row

-- a step is the definition's: `w` is what it is taken on, `w'` what it leaves
abbrev pub Takes : (Draft → LineTaken) → Drafting → Step → Drafting → Type 0
Takes f w r w' = (st : Draft) → IsDraft st w → Took (f st) r w'

-- the loops are opened or closed before the statement is written
unfoldable pub with_loops : Draft → List ℕ → Draft
with_loops st ls = draft st.counted st.used ls st.count st.begun st.settings st.body

-- the loops opened or closed, or the fault of the line
unfoldable pub nested_in : ℕ → Draft → Nested → LineTaken
nested_in row st (now ls) = going (with_loops st ls)
nested_in row st (broken f) = stop f row

-- opening or closing a loop leaves the rest as it is
pub record Nests (shape : Shape) (row : ℕ) (w : Drafting) (r : Step) (w' : Drafting) : Type 0 where
  pub takes : Takes (λ st. nested_in row st (nest row shape st.loops)) w r w'
  pub written : w'.written ≡ w.written
  pub table : w'.table ≡ w.table

-- there is room: a cell for one more statement, and places for the loops and the processes that there are
pub record HasRoom (w : Drafting) : Type 0 where
  pub room : w.written < cell_places
  pub deep : w.opened ≤ loop_places
  pub some : 0 < w.table.heads.processes
  pub few : w.table.heads.processes ≤ process_places

-- the same between two lines: there is a cell for each line that is counted
pub record Ready (w : Drafting) : Type 0 where
  pub room : w.written ≤ w.counted
  pub deep : w.opened ≤ loop_places
  pub some : 0 < w.table.heads.processes
  pub few : w.table.heads.processes ≤ process_places

-- room for a statement's word and its data
pub record HasRoomFor (w : Drafting) (bs : List ℕ) : Type 0 where
  pub room : w.written < cell_places
  pub some : 0 < w.table.heads.processes
  pub few : w.table.heads.processes ≤ process_places
  pub data_room : w.table.heads.used + length bs ≤ pool_places

-- ---- a step by what the line says

-- the data were put at the front of the lent bytes
pub record Fronts (lent bs : List ℕ) : Type 0 where
  pub before : List ℕ
  pub put : lent ≡ sets before 0 bs

-- how many bytes of data a line has
abbrev pub bytes_of_line : Line → ℕ
bytes_of_line Comment = 0
bytes_of_line Blank = 0
bytes_of_line Process = 0
bytes_of_line Ex = 0
bytes_of_line (Says c) = count_in c
bytes_of_line (Encode b) = 0
bytes_of_line (Stopbits two) = 0
bytes_of_line (Omit n) = n
bytes_of_line (Lfext e) = 0

-- the same of a line that is read, or refused
abbrev pub bytes_said : Result Line TextFault → ℕ
bytes_said (Ok l) = bytes_of_line l
bytes_said (Err f) = 0

-- "At most 512 lines besides comments"
abbrev pub comment_line : Line → Bool
comment_line Comment = true
comment_line Blank = false
comment_line Process = false
comment_line Ex = false
comment_line (Says c) = false
comment_line (Encode b) = false
comment_line (Stopbits two) = false
comment_line (Omit n) = false
comment_line (Lfext e) = false

abbrev pub comment_said : Result Line TextFault → Bool
comment_said (Ok l) = comment_line l
comment_said (Err f) = false

module _ (row : ℕ) (lent : List ℕ) (w : Drafting) (r : Step) (w' : Drafting) where
  abbrev pub Writes : Cell → Type 0
  Writes c = (s : Statement) → c ≡ cell_for 0 s → Fronts lent (data_of s) → Takes (λ st. take_statement row st s) w r w'

  abbrev pub Steps : Line → Type 0
  Steps Comment = Takes going w r w'
  Steps Blank = Takes going w r w'
  Steps Process = Takes (λ st. take_process row st st.loops) w r w'
  Steps Ex = Takes going w r w'
  Steps (Says c) = Writes c
  Steps (Encode b) = Takes (λ st. draft.take_meaning row st (set_encode b)) w r w'
  Steps (Stopbits two) = Takes (λ st. draft.take_meaning row st (set_stopbits two)) w r w'
  Steps (Omit n) = (bs : List ℕ) → n ≡ length bs → Fronts lent bs → Takes (λ st. take_omit row st st.settings bs) w r w'
  Steps (Lfext e) = (l : List ℕ) → length l ≤ 3 → e ≡ letters_from l → Takes (λ st. draft.take_meaning row st (set_lfext l)) w r w'

  abbrev pub StepsSaid : Result Line TextFault → Type 0
  StepsSaid (Ok l) = Steps l
  StepsSaid (Err f) = r ≡ stopped f row
