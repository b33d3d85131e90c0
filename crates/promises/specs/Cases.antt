-- Document 01, "Both sides of each bound": every case marked P, in one table under one statement about the definitions. Assumes nothing: these are
-- definitions.
use Rattle.std.specs.Prelude.{◌≡◌, List, [], ◌∷◌, map, ℕ, take, Ok, Err}
use Prim.Native.String.{String}
use Rattle.std.proofs.Math.Seq.{slice}
use Rattle.reader.specs.Ascii.{ascii}
use Rattle.figures.specs.Flat.{fragment}
use Rattle.figures.specs.Written.{written, longest_run}
use Rattle.language.specs.declared.Cell.{Cell}
use Rattle.language.specs.declared.Cell.TheVariants.{WaitTime}
use Rattle.language.specs.declared.Table.{Table}
use Rattle.language.specs.Cell.{decoded}
use Rattle.language.specs.Script.{Statement, processes}
use Rattle.language.specs.Stretch.{mark_of}
use Rattle.language.specs.Draft.{Result, accepted, refused, result_of}
use Rattle.language.specs.Answer.{CompilerAnswer, fault_number, script_from, compiled}
use Rattle.accepted.specs.Accepted.{table_right}
use Rattle.runner.specs.Calls.{Box, Call, start, byte, drain, Reply, event, replies}
use Rattle.bounded.specs.Replies.{once, quiet, plain, sent, recorded}
use Rattle.running.specs.Running as script
use Rattle.running.specs.Agreement.{replies_of}

-- what the bench reads back of a text: the stretch; or the number of the refusal, the line or process, and the column
pub data ReadBack : Type 0 where
  stretch : ℕ → ReadBack
  number : ℕ → ℕ → ℕ → ReadBack

-- what an answer is read back as
abbrev pub read_back : CompilerAnswer → ReadBack
read_back (Ok k) = stretch k
read_back (Err r) = number (fault_number r.fault) r.line r.column

-- the statements of each process, as the table has them
abbrev pub statements_from : List ℕ → ℕ → List ℕ → List (List Cell)
statements_from cells from [] = []
statements_from cells from (e ∷ es) = map decoded (slice from e cells) ∷ statements_from cells e es

-- of all processes of a table
abbrev pub statements : Table → List (List Cell)
statements t = statements_from t.cells 0 (take t.heads.processes t.heads.ends)

-- the longest run of each process's statements written out, m passes of each forever loop among them; the text is taken without the bound of 11
abbrev pub longest_by : ℕ → Result → List ℕ
longest_by m (accepted s) = map (λ (p : List Statement). longest_run (written m (fragment (map mark_of p)))) (processes s.body)
longest_by m (refused f row column) = []

-- the script of a text, however long its stretch
abbrev pub unbounded : List ℕ → Result
unbounded text = result_of (λ p. 0) text

-- a text, and what it is answered; the longest run of its one process written out; the statements of its processes; two texts with the same table;
-- or the replies to some calls after a start
pub data Case : Type 0 where
  answers : String → ReadBack → Case
  writes_out : String → ℕ → Case
  holds : String → List (List Cell) → Case
  alike : String → String → Case
  runs : String → List Call → List Reply → Case

-- a run begins with a start, whatever the box held before: what the script that the text says does, and what the runner does with its table
pub record Runs (text : List ℕ) (qs : List Call) (rs : List Reply) : Type 0 where
  pub script : (y : script.Box) → replies_of (script_from text) y qs ≡ event (Ok tt) ∷ rs
  pub runner : (b : Box) → replies table_right (compiled text).table b (start ∷ qs) ≡ event (Ok tt) ∷ rs

-- the table of a refused text has no process, so one with statements is an accepted text's
abbrev pub CaseSays : Case → Type 0
CaseSays (answers text a) = read_back (compiled (ascii text)).answer ≡ a
CaseSays (writes_out text k) = (m : ℕ) → longest_by m (unbounded (ascii text)) ≡ k ∷ []
CaseSays (holds text ps) = statements (compiled (ascii text)).table ≡ ps
CaseSays (alike one other) = (compiled (ascii one)).table ≡ (compiled (ascii other)).table
CaseSays (runs text qs rs) = Runs (ascii text) qs rs

-- every case of a table of cases
abbrev pub All : List Case → Type 0
All [] = Unit {0}
All (c ∷ cs) = CaseSays c × All cs

-- each byte, and a drain after it
abbrev pub bytes_then : List ℕ → List Call → List Call
bytes_then [] qs = qs
bytes_then (b ∷ bs) qs = byte b ∷ drain 128 ∷ bytes_then bs qs

-- so many bytes, each recorded once, and after each no process is ready
abbrev pub waits_through : List ℕ → List Reply → List Reply
waits_through [] rs = rs
waits_through (b ∷ bs) rs = once ∷ quiet ∷ waits_through bs rs

-- the cases marked P, in document 01's order
abbrev pub cases : List Case
cases =
    -- "`#LOOP 2047`, `/A`, `#END`: stretch 4,095, accepted."
    answers "#LOOP 2047\n/A\n#END\n" (stretch 4095)
    ∷ writes_out "#LOOP 2047\n/A\n#END\n" 4095
    -- "With `#NOP` before: 4,096, accepted."
    ∷ answers "#NOP\n#LOOP 2047\n/A\n#END\n" (stretch 4096)
    ∷ writes_out "#NOP\n#LOOP 2047\n/A\n#END\n" 4096
    -- "`#LOOP 2048`: 4,097, refused 11."
    ∷ answers "#LOOP 2048\n/A\n#END\n" (number 11 1 0)
    ∷ writes_out "#LOOP 2048\n/A\n#END\n" 4097
    -- "`#LOOP`, `#WAIT CTSON`, `#END`: 11."
    ∷ answers "#LOOP\n#WAIT CTSON\n#END\n" (number 11 1 0)
    -- "Empty text: one empty process, quiet at once."
    ∷ answers "" (stretch 0)
    ∷ holds "" ([] ∷ [])
    ∷ runs "" (drain 128 ∷ []) (quiet ∷ [])
    -- "`#WAIT TIME`: 1,000 ms."
    ∷ holds "#WAIT TIME\n" ((WaitTime 1000 ∷ []) ∷ [])
    -- "`#WAIT TIME 999M`: 59,940,000 ms; `1000M`: 4."
    ∷ holds "#WAIT TIME 999M\n" ((WaitTime 59940000 ∷ []) ∷ [])
    ∷ answers "#WAIT TIME 1000M\n" (number 4 1 17)
    -- "`#WAIT CLOCK D` and `h00`: the same table."
    ∷ answers "#WAIT CLOCK D\n" (stretch 0)
    ∷ answers "#WAIT CLOCK h00\n" (stretch 0)
    ∷ alike "#WAIT CLOCK D\n" "#WAIT CLOCK h00\n"
    -- "Wait for AAB, bytes AAAB: ends at the fourth."
    ∷ runs "#WAIT DATA /AAB\n/!\n" (drain 128 ∷ bytes_then (ascii "AAAB") []) (plain ∷ waits_through (ascii "AAA") (once ∷ sent (33 ∷ []) ∷ []))
    -- "ABC joined with XYZ, bytes ABC123XYZ: does not end."
    ∷ runs "#WAIT DATA /ABC\n#WAIT DATA /XYZ\n/!\n" (drain 128 ∷ bytes_then (ascii "ABC123XYZ") []) (plain ∷ waits_through (ascii "ABC123XYZ") [])
    -- "Two LOG lines of the same text: each shows 0 first.", and 1 next
    ∷ runs "#LOOP 2\n#LOG @c\n#LOG @c\n#END\n" (drain 128 ∷ drain 128 ∷ drain 128 ∷ drain 128 ∷ drain 128 ∷ drain 128 ∷ drain 128 ∷ drain 128 ∷ [])
    (plain ∷ recorded (48 ∷ []) ∷ recorded (48 ∷ []) ∷ plain ∷ recorded (49 ∷ []) ∷ recorded (49 ∷ []) ∷ plain ∷ quiet ∷ [])
    ∷ []
