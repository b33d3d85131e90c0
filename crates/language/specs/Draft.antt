-- The script under construction, and what a line does to it. Document 01: "12 is first. Then the first faulty line; within it the
-- order above. The end of the text comes after all lines, 11 last."
use Rattle.std.specs.Prelude.{ℕ, ◌+◌, Bool, true, false, cond, List, [], ◌∷◌, ◌++◌, length, ltb, leb}
use Rattle.figures.specs.Cap.{limit}
use Rattle.language.specs.declared.TextFault.{TextFault}
use Rattle.language.specs.declared.TextFault.TheVariants.{TextTooLong, LineTooLong, TooManyLines, TooMuchData, TooManyOmits, TooManyLoops, EndWithoutLoop, LoopLeftOpen, TooManyProcesses, StretchTooLong}
use Rattle.language.specs.Limits.{text_limit, line_limit, lines_limit, data_limit, omit_limit, loop_limit, process_limit}
use Rattle.language.specs.Lines.{lines_of}
use Rattle.language.specs.Script.{Statement, Meaning, comment, blank, process, set_ex, says, set_encode, set_stopbits, set_omit, set_lfext, fault, byte, Settings, settings, default, Item, does, next, Script, processes, Shape, opens, closes, stays, shape, data_of}
use Rattle.language.specs.Meaning.{meaning}
use Rattle.language.specs.Column.{column_in}

-- what a text comes to: a script, or a fault with the line that it names and the column in it
pub data Result : Type 0 where
  accepted : Script → Result
  refused : TextFault → ℕ → ℕ → Result

-- what the lines so far have used up
pub record Draft : Type 0 where
  pub counted : ℕ  -- lines besides comments
  pub used : ℕ  -- bytes of data
  pub loops : List ℕ  -- the lines of the open loops, the innermost first
  pub count : ℕ  -- processes begun
  pub begun : Bool  -- a statement or a PROCESS line has come
  pub settings : Settings
  pub body : List Item

-- a draft by its parts
abbrev pub draft : ℕ → ℕ → List ℕ → ℕ → Bool → Settings → List Item → Draft
draft counted used loops count begun settings body =
    record { counted = counted; used = used; loops = loops; count = count; begun = begun; settings = settings; body = body }

-- before the first line: one process, nothing used
unfoldable pub start : Draft
start = draft 0 0 [] 1 false default []

-- a line is taken, or "the first faulty line" ends it all
pub data LineTaken : Type 0 where
  going : Draft → LineTaken
  stop : TextFault → ℕ → LineTaken

-- one more line counted
unfoldable pub count_line : Draft → Draft
count_line st = draft (st.counted + 1) st.used st.loops st.count st.begun st.settings st.body

-- other settings
unfoldable pub with_settings : Draft → Settings → Draft
with_settings st s = draft st.counted st.used st.loops st.count st.begun s st.body

-- one more statement, its data used, `loops` being the loops open after it
unfoldable pub with_item : Draft → List ℕ → Statement → Draft
with_item st loops s =
    draft st.counted (st.used + length (data_of s)) loops st.count true st.settings (st.body ++ does s ∷ [])

-- the loops open after a statement, or the number of its fault: "ninth open loop" 6, "END with none open" 7
pub data Nested : Type 0 where
  now : List ℕ → Nested
  broken : TextFault → Nested

-- "8 loops deep"; LOOP opens one with its line, END closes the innermost
unfoldable pub nest : ℕ → Shape → List ℕ → Nested
nest row stays ls = now ls
nest row opens ls = cond (ltb (length ls) loop_limit) (now (row ∷ ls)) (broken TooManyLoops)
nest row closes [] = broken EndWithoutLoop
nest row closes (l ∷ ls) = now ls

-- the statement is taken unless its loop is at fault
unfoldable pub take_nested : ℕ → Draft → Statement → Nested → LineTaken
take_nested row st s (now ls) = going (with_item st ls s)
take_nested row st s (broken n) = stop n row

-- "data over 1,024" 5
unfoldable pub take_statement : ℕ → Draft → Statement → LineTaken
take_statement row st s =
    cond (leb (st.used + length (data_of s)) data_limit) (take_nested row st s (nest row (shape s) st.loops)) (stop TooMuchData row)

-- after a PROCESS line that begins the next process
unfoldable pub with_next : Draft → Draft
with_next st = draft st.counted st.used [] (st.count + 1) true st.settings (st.body ++ next ∷ [])

-- "begins the first process": nothing but that it has begun
unfoldable pub with_first : Draft → Draft
with_first st = draft st.counted st.used [] st.count true st.settings st.body

-- "the script's first such line, if no statement comes before it, begins the first process, and every other one the next"
unfoldable pub beginning : ℕ → Draft → LineTaken
beginning row st = cond st.begun (cond (ltb st.count process_limit) (going (with_next st)) (stop TooManyProcesses row)) (going (with_first st))

-- "loop open at a PROCESS line or the end of text: line of the innermost" 8, "ninth process" 9
unfoldable pub take_process : ℕ → Draft → List ℕ → LineTaken
take_process row st [] = beginning row st
take_process row st (l ∷ ls) = stop LoopLeftOpen l

-- "OMIT over 10" 10; "several lines add up"
unfoldable pub take_omit : ℕ → Draft → Settings → List ℕ → LineTaken
take_omit row st s bs =
    cond (leb (length (s.omit ++ bs)) omit_limit)
    (going (with_settings st (settings s.encode s.two_stopbits (s.omit ++ bs) s.lfext)))
    (stop TooManyOmits row)

-- a line that counts, by its meaning
unfoldable pub take_meaning : ℕ → Draft → Meaning → LineTaken
take_meaning row st comment = going st
take_meaning row st blank = going st
take_meaning row st process = take_process row st st.loops
take_meaning row st set_ex = going st
take_meaning row st (says s) = take_statement row st s
take_meaning row st (set_encode b) =
    going (with_settings st (settings (byte b) st.settings.two_stopbits st.settings.omit st.settings.lfext))
take_meaning row st (set_stopbits two) =
    going (with_settings st (settings st.settings.encode two st.settings.omit st.settings.lfext))
take_meaning row st (set_omit bs) = take_omit row st st.settings bs
take_meaning row st (set_lfext e) =
    going (with_settings st (settings st.settings.encode st.settings.two_stopbits st.settings.omit e))
take_meaning row st (fault n) = stop n row

-- "513th counted line" 2
unfoldable pub take_counted : ℕ → Draft → Meaning → LineTaken
take_counted row st m = cond (ltb st.counted lines_limit) (take_meaning row (count_line st) m) (stop TooManyLines row)

-- "At most 512 lines besides comments"
unfoldable pub is_comment : Meaning → Bool
is_comment comment = true
is_comment blank = false
is_comment process = false
is_comment set_ex = false
is_comment (says s) = false
is_comment (set_encode b) = false
is_comment (set_stopbits two) = false
is_comment (set_omit bs) = false
is_comment (set_lfext e) = false
is_comment (fault n) = false

-- "line over 127" 1
unfoldable pub take_line : ℕ → Draft → List ℕ → LineTaken
take_line row st l =
    cond (ltb line_limit (length l)) (stop LineTooLong row)
    (cond (is_comment (meaning l)) (going st) (take_counted row st (meaning l)))

-- a fault ends the fold: it was found at the line `l`
unfoldable pub go_on : List ℕ → LineTaken → (Draft → Result) → Result
go_on l (going st) go = go st
go_on l (stop n row) go = refused n row (column_in l n)

-- a fault of the text as a whole, which was found at none of its lines
abbrev pub refused_whole : TextFault → ℕ → Result
refused_whole n row = refused n row (column_in [] n)

-- "stretch over 4,096: lowest process number, from 1, in place of a line" 11: the stretch of a process is given
module _ (stretch : List Statement → ℕ) where
  unfoldable pub stretched : List (List Statement) → ℕ → Script → Result
  stretched [] number s = accepted s
  stretched (p ∷ ps) number s = cond (leb (stretch p) limit) (stretched ps (number + 1) s) (refused_whole StretchTooLong number)

  -- "The end of the text comes after all lines, 11 last"
  unfoldable pub finished : Script → List ℕ → Result
  finished s [] = stretched (processes s.body) 1 s
  finished s (l ∷ ls) = refused_whole LoopLeftOpen l

  -- the lines one after the other, `row` being the number of the next
  unfoldable pub fold : List (List ℕ) → ℕ → Draft → Result
  fold [] row st = finished (record { settings = st.settings; body = st.body }) st.loops
  fold (l ∷ ls) row st = go_on l (take_line row st l) (λ st₁. fold ls (row + 1) st₁)

  -- "text over 65,536 bytes (line 0)" 12
  unfoldable pub result_of : List ℕ → Result
  result_of s = cond (leb (length s) text_limit) (fold (lines_of s) 1 start) (refused_whole TextTooLong 0)
