-- A box that is called: its state and its counts, what a call does to them, and what it is answered.
use Rattle.std.specs.Prelude.{ℕ, Bool, cond, List, [], ◌∷◌}
use Rattle.language.specs.declared.Table.{Table}
use Rattle.process.specs.declared.Reading.{Reading}
use Rattle.process.specs.declared.State.{State}
use Rattle.process.specs.Answers.{Taken}
use Rattle.process.specs.Answers.{Received}
use Rattle.process.specs.Answers.{Gulped}
use Rattle.statement.specs.declared.outcome.Outcome.{Outcome}
use Rattle.process.specs.declared.Copies.{Copies}
use Rattle.process.specs.declared.Gulp.{Gulp}
use Rattle.process.specs.declared.Event.{Event}
use Rattle.events.specs.Events.{tick_event, reading_event, level_event}
use Rattle.events.specs.Receiving.{byte_event}
use Rattle.events.specs.Gulps.{ticks_event, bytes_event, bytes_records}
use Rattle.runner.specs.Draining.{does, writes, drained, counts_after}
use Rattle.runner.specs.Starting.{start_event, start_counts}

-- what is handed on from call to call
pub record Box : Type 0 where
  pub state : State
  pub counts : List ℕ

-- a start; the four events; a gulp, of so many ticks or of these bytes with so many places for what is recorded; a drain with a buffer of so many bytes
pub data Call : Type 0 where
  start tick : Call
  byte : ℕ → Call
  reading : Reading → Call
  level : ℕ → Bool → Call
  ticks : ℕ → Call
  bytes : List ℕ → ℕ → Call
  drain : ℕ → Call

-- what a call is answered; of a gulp also the bytes that it recorded, of a drain those that it wrote
pub data Reply : Type 0 where
  event : Taken → Reply
  received : Received → Reply
  gulp : Gulped → List ℕ → Reply
  outcome : Outcome → List ℕ → Reply

-- the box after a call, and what it was answered
pub record Called : Type 0 where
  pub box : Box
  pub reply : Reply

-- the box with another state
abbrev pub boxed : State → List ℕ → Box
boxed s counts = record { state = s; counts = counts }

-- an event's answer as a call's
abbrev pub answered_by : List ℕ → Event (Unit {0}) → Called
answered_by counts e = record { box = boxed e.state counts; reply = event e.answer }

-- a byte's answer as a call's
abbrev pub received_by : List ℕ → Event Copies → Called
received_by counts e = record { box = boxed e.state counts; reply = received e.answer }

-- a gulp's answer as a call's
abbrev pub gulped_by : List ℕ → Event Gulp → List ℕ → Called
gulped_by counts e records = record { box = boxed e.state counts; reply = gulp e.answer records }

-- `right` tells whether some accepted script has the table
module _ (right : Table → Bool) where
  unfoldable pub start_call : Table → Box → Called
  start_call t b = answered_by (start_counts (right t) b.counts) (start_event (right t) t.heads b.state)

  unfoldable pub called : Table → Call → Box → Called
  called t start b = start_call t b
  called t tick b = answered_by b.counts (tick_event b.state)
  called t (byte x) b = received_by b.counts (byte_event t.pool t.heads b.state x)
  called t (reading r) b = answered_by b.counts (reading_event b.state r)
  called t (level n on) b = answered_by b.counts (level_event b.state n on)
  called t (ticks n) b = gulped_by b.counts (ticks_event b.state n) []
  called t (bytes run room) b =
      gulped_by b.counts (bytes_event t.pool t.heads b.state run room) (bytes_records t.pool t.heads b.state run room)
  called t (drain room) b =
      record {
        box = boxed (drained t.cells t.pool b.state b.counts room).state (counts_after t.cells b.state b.counts room);
        reply =
            outcome (drained t.cells t.pool b.state b.counts room).outcome
            (cond (does t.cells b.state room) (writes t.cells t.pool b.state b.counts) []);
      }

  -- the replies to some calls, one after the other, the table and what is handed back handed on unaltered
  unfoldable pub replies : Table → Box → List Call → List Reply
  replies t b [] = []
  replies t b (q ∷ qs) = (called t q b).reply ∷ replies t (called t q b).box qs
