-- What a script does computes: which waits are joined, and the example of the two norths with its own operations and outcomes. Assumes nothing.
use mathlib.Core.Path.{◌≡◌, refl}
use mathlib.Core.List.{List, [], ◌∷◌, ◌++◌}
use Prim.Native.Nat.{ℕ}
use Prim.Native.String.{String}
use Rattle.std.specs.Prelude.{Ok}
use Rattle.reader.specs.Ascii.{ascii}
use Rattle.language.specs.Script.{Statement, wait_time, wait_data, nop}
use Rattle.language.specs.Draft.{Result, accepted, refused}
use Rattle.language.specs.Answer.{script_from}
use Rattle.running.specs.Joined as joined
use Rattle.language.proofs.Opened.{printed}
use Rattle.events.specs.Recording as recording
use Rattle.record.specs.Logging as logging
use Rattle.runner.specs.Calls.{Call, tick, byte, drain, Reply, event}
use Rattle.bounded.specs.Replies.{once, quiet, plain, sent, recorded}
use Rattle.running.specs.Running.{Box, ends_in, ticked, gets, unless_zero, closed, logged, does, next_in, next_by, is_statement, busy, later, takes, turn, drained, times_by, times_recorded, started, called, replies}
use Rattle.running.specs.Agreement.{replies_of}

-- ---- joined waits

-- the statements of each process as they are done; none of a refused text
abbrev done_by : Result → List (List Statement)
done_by (accepted s) = joined.done s.body
done_by (refused f row column) = []

-- a text, and its statements as they are done
abbrev Joins : List (String × List (List Statement)) → Type 0
Joins [] = Unit {0}
Joins (c ∷ cs) = (done_by (script_from (ascii c.0)) ≡ c.1) × Joins cs

-- "Only comment, blank and f: lines may stand between"; `#NOP`, `#WAIT TIME 0` and `#PROCESS` part them
abbrev cases : List (String × List (List Statement))
cases =
    ("#WAIT DATA /ABC\n#WAIT DATA /XYZ", (wait_data (ascii "ABCXYZ") ∷ []) ∷ [])
    ∷ ("#WAIT DATA /A\n; one\n\n#f:EX1 IN\n#WAIT DATA /B\n#WAIT DATA /C", (wait_data (ascii "ABC") ∷ []) ∷ [])
    ∷ ("#WAIT DATA /ABC\n#NOP\n#WAIT DATA /XYZ", (wait_data (ascii "ABC") ∷ nop ∷ wait_data (ascii "XYZ") ∷ []) ∷ [])
    ∷ ("#WAIT DATA /ABC\n#WAIT TIME 0\n#WAIT DATA /XYZ", (wait_data (ascii "ABC") ∷ wait_time 0 ∷ wait_data (ascii "XYZ") ∷ []) ∷ [])
    ∷ ("#WAIT DATA /ABC\n#PROCESS\n#WAIT DATA /XYZ", (wait_data (ascii "ABC") ∷ []) ∷ (wait_data (ascii "XYZ") ∷ []) ∷ [])
    ∷ []

pub cases_join : Joins cases
unfolding script_from printed joined.joined_in joined.join_to joined.join_two joined.awaits joined.done
cases_join = (refl, (refl, (refl, (refl, (refl, tt)))))

-- ---- the two norths

-- so many bytes, one after the other
abbrev bytes : List ℕ → List Call → List Call
bytes [] qs = qs
bytes (b ∷ bs) qs = byte b ∷ bytes bs qs

-- each of them taken, and recorded once
abbrev tooks : List ℕ → List Reply → List Reply
tooks [] rs = rs
tooks (b ∷ bs) rs = once ∷ tooks bs rs

-- examples/two_norths.script
text : List ℕ
text =
    ascii "; Two meters, both called North: the end of the reply tells them apart.\n; They are asked by turns. The two lines of each wait are one wait for the bytes joined.\n#LOOP EVER\n/ASK 1\n:0D\n#WAIT DATA /NORTH\n; the east meter\n#WAIT DATA /-E\n#LOG north east @c @h:@m:@s@r@n\n/ASK 2\n:0D\n#WAIT DATA /NORTH\n#WAIT DATA /-W\n#LOG north west @c @h:@m:@s@r@n\n#WAIT TIME 5S\n#END\n"

-- its operations
operations : List Call
operations =
    drain 128 ∷ drain 128 ∷ drain 128 ∷ drain 128 ∷ drain 128 ∷ bytes (ascii "NORTH-W") (drain 128 ∷ bytes (ascii "NORNORTH") (drain 128 ∷ bytes (ascii "-E")
    (drain 128 ∷ drain 128 ∷ drain 128 ∷ drain 128 ∷ drain 128 ∷ bytes (ascii "NORTH-E") (drain 128 ∷ bytes (ascii "NORTH-") (drain 128 ∷ bytes (ascii "W")
    (drain 128 ∷ drain 128 ∷ drain 128 ∷ tick ∷ drain 128 ∷ []))))))

-- its outcomes: the west meter's reply never ends the wait for the east one's, and half a match loses nothing
outcomes : List Reply
outcomes =
    event (Ok tt) ∷ plain ∷ sent (ascii "ASK 1") ∷ sent (13 ∷ []) ∷ plain ∷ quiet
    ∷ tooks (ascii "NORTH-W") (quiet ∷ tooks (ascii "NORNORTH") (quiet ∷ tooks (ascii "-E")
    (recorded (ascii "north east 0 00:00:00" ++ (13 ∷ 10 ∷ [])) ∷ sent (ascii "ASK 2") ∷ sent (13 ∷ []) ∷ plain ∷ quiet
    ∷ tooks (ascii "NORTH-E") (quiet ∷ tooks (ascii "NORTH-") (quiet ∷ tooks (ascii "W")
    (recorded (ascii "north west 0 00:00:00" ++ (13 ∷ 10 ∷ [])) ∷ plain ∷ quiet ∷ event (Ok tt) ∷ quiet ∷ []))))))

norths : (b : Box) → replies_of (script_from text) b operations ≡ outcomes
unfolding text operations outcomes script_from printed joined.joined_in joined.join_to joined.join_two joined.awaits joined.done started called replies busy does turn takes later drained next_in next_by is_statement closed logged logging.sign_text logging.written_out logging.record_of logging.next_count ends_in gets times_recorded times_by recording.one_of ticked unless_zero
norths b = refl
