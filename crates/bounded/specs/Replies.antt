-- Texts that compile, calls of the runner, and what a reply says: what the demands have in common. Assumes nothing: these are definitions.
use Rattle.std.specs.Prelude.{◌≡◌, Bool, true, false, List, [], ℕ, ltb, length, Ok, Err}
use Rattle.reader.specs.Bytes.{all}
use Rattle.language.specs.declared.Table.{Table}
use Rattle.language.specs.Right.{is_byte}
use Rattle.language.specs.Answer.{compiled}
use Rattle.accepted.specs.Accepted.{table_right}
use Rattle.process.specs.declared.RunRefusal.{RunRefusal}
use Rattle.process.specs.Answers.{Taken, Received, Gulped}
use Rattle.statement.specs.declared.outcome.Outcome.{Outcome}
use Rattle.statement.specs.declared.outcome.Outcome.TheVariants.{Quiet, Sent, Recorded, Rts, Fchange, Pause, Resume, Plain, Refused}
use Rattle.process.specs.State.{run_refusal_number}
use Rattle.runner.specs.Calls as calls
use Rattle.runner.specs.Calls.{Box, Call, start, tick, byte, reading, level, ticks, bytes, drain, Reply, event, gulp, outcome, Called}

-- "a script that was accepted": a text of bytes compiles to the table t, and k is the stretch that is reported
pub record Compiles (text : List ℕ) (t : Table) (k : ℕ) : Type 0 where
  pub bytes : all is_byte text ≡ true
  pub result : compiled text ≡ record { answer = Ok k; table = t }

-- a call of the runner, which starts a table exactly if some accepted script has it
abbrev pub called : Table → Call → Box → Called
called = calls.called table_right

-- ---- "Numbers the bench reads back": the number that a reply refuses by; 0 is no refusal

-- "is answered 25": the number that an event is refused by, 0 where it is taken
abbrev pub taken_number : Taken → ℕ
taken_number (Ok tt) = 0
taken_number (Err r) = run_refusal_number r

-- the number that a received byte is answered by, 0 where it is taken
abbrev pub received_number : Received → ℕ
received_number (Ok c) = 0
received_number (Err r) = run_refusal_number r

-- likewise of a gulp
abbrev pub gulped_number : Gulped → ℕ
gulped_number (Ok g) = 0
gulped_number (Err r) = run_refusal_number r

-- likewise of a drain
abbrev pub outcome_number : Outcome → ℕ
outcome_number Quiet = 0
outcome_number (Sent n) = 0
outcome_number (Recorded n) = 0
outcome_number (Rts s) = 0
outcome_number Fchange = 0
outcome_number Pause = 0
outcome_number Resume = 0
outcome_number Plain = 0
outcome_number (Refused r) = run_refusal_number r

-- likewise of any call
unfoldable pub reply_number : Reply → ℕ
reply_number (event a) = taken_number a
reply_number (calls.received a) = received_number a
reply_number (gulp a records) = gulped_number a
reply_number (outcome o written) = outcome_number o

-- "is answered 25" of the refusal itself, whatever number it has: a reply that refuses by it
abbrev pub RefusedBy : RunRefusal → Reply → Type 0
RefusedBy r (event a) = a ≡ Err r
RefusedBy r (calls.received a) = a ≡ Err r
RefusedBy r (gulp a records) = a ≡ Err r
RefusedBy r (outcome o written) = o ≡ Refused r

-- a drain did a statement
abbrev pub did : Outcome → Bool
did Quiet = false
did (Sent n) = true
did (Recorded n) = true
did (Rts s) = true
did Fchange = true
did Pause = true
did Resume = true
did Plain = true
did (Refused r) = false

-- ---- events

-- a reply says that its event was taken
abbrev pub took_event : Taken → Bool
took_event (Ok tt) = true
took_event (Err r) = false

-- likewise a received byte
abbrev pub took_byte : Received → Bool
took_byte (Ok c) = true
took_byte (Err r) = false

-- how many single events a gulp took
abbrev pub took_many : Gulped → ℕ
took_many (Ok g) = g.taken
took_many (Err r) = 0

-- likewise any call; a gulp that took at least one is an accepted event
unfoldable pub was_taken : Reply → Bool
was_taken (event a) = took_event a
was_taken (calls.received a) = took_byte a
was_taken (gulp a records) = ltb 0 (took_many a)
was_taken (outcome o written) = false

-- a call that is an event, or a gulp of them
abbrev pub is_event : Call → Bool
is_event start = false
is_event tick = true
is_event (byte x) = true
is_event (reading r) = true
is_event (level n on) = true
is_event (ticks n) = true
is_event (bytes run room) = true
is_event (drain room) = false

-- ---- replies by name

-- a byte that is taken and recorded once
abbrev pub once : Reply
once = calls.received (Ok (record { count = 1 }))

-- a drain that says quiet
abbrev pub quiet : Reply
quiet = outcome Quiet []

-- a drain whose statement neither sent, recorded nor switched
abbrev pub plain : Reply
plain = outcome Plain []

-- one that sent some bytes
abbrev pub sent : List ℕ → Reply
sent bs = outcome (Sent (record { bytes = length bs })) bs

-- one that recorded some
abbrev pub recorded : List ℕ → Reply
recorded bs = outcome (Recorded (record { bytes = length bs })) bs
