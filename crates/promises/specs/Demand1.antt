-- Demand 1: "The box takes every script, event, table and state there can be, and always comes back. Bad input is refused by a
-- number in document 01. A refusal hands back the state it was given and leaves each lent buffer with the bytes it had."
-- That it always comes back is in the functions: none asks anything. Assumes nothing: these are definitions.
use Rattle.std.specs.Prelude.{◌≡◌, List, ◌⊎◌, ℕ, ◌≤◌, ◌<◌, length, None, Err}
use Rattle.hex_data.specs.declared.HexFault.TheVariants.{Full, Wrong}
use Rattle.hex_data.specs.Hex.{Said, hex_into, hex_put}
use Rattle.writer.specs.Put.{put_answer, put_into}
use Rattle.language.specs.declared.Table.{Table}
use Rattle.language.specs.declared.TextFault.{TextFault}
use Rattle.language.specs.Table.{zero_table}
use Rattle.language.specs.Answer as texts
use Rattle.language.specs.Answer.{refusal_of, compiled}
use Rattle.lister.specs.declared.ListRefusal as refusals
use Rattle.lister.specs.Listed as tables
use Rattle.lister.specs.Listed.{list_answer, list_into}
use Rattle.process.specs.declared.Reading.{Reading}
use Rattle.process.specs.declared.RunRefusal.{RunRefusal}
use Rattle.process.specs.State.{run_refusal_number}
use Rattle.events.specs.Gulps.{bytes_event, records_after}
use Rattle.record.specs.Logging.{record_answer, record_into}
use Rattle.runner.specs.Draining.{drained, buffer_after}
use Rattle.runner.specs.Calls.{Box, Call}
use Rattle.bounded.specs.Replies.{called, gulped_number, outcome_number, reply_number}

-- a call on a box: 0 is no refusal, and the runner's numbers are 21 to 25
pub record Refuses (t : Table) (b : Box) (q : Call) : Type 0 where
  pub numbered : (reply_number (called t q b).reply ≡ 0) ⊎ ((21 ≤ reply_number (called t q b).reply) × (reply_number (called t q b).reply ≤ 25))
  pub unaltered : 0 < reply_number (called t q b).reply → (called t q b).box ≡ b

-- the buffer that is lent to a drain, and the places that are lent to a run of bytes
pub record Spares (t : Table) (b : Box) (out : List ℕ) : Type 0 where
  pub buffer :
      0 < outcome_number (drained t.cells t.pool b.state b.counts (length out)).outcome →
      buffer_after t.cells t.pool b.state b.counts out ≡ out
  pub records : (run : List ℕ) →
      0 < gulped_number (bytes_event t.pool t.heads b.state run (length out)).answer →
      records_after t.pool t.heads b.state run out ≡ out

-- the compiler: its numbers are 1 to 12, and "a table handed back by value with a refusal is all zeros"
pub record RefusesText (text : List ℕ) : Type 0 where
  pub numbered : (f : TextFault) → (1 ≤ texts.fault_number f) × (texts.fault_number f ≤ 12)
  pub zeroed : (f : TextFault) (row column : ℕ) → (compiled text).answer ≡ Err (refusal_of f row column) → (compiled text).table ≡ zero_table

-- the lister: its numbers are 25 and 26, and the buffer that is lent to it has the bytes it had
pub record RefusesTable (t : Table) (out : List ℕ) : Type 0 where
  pub numbered : (w : refusals.ListRefusal) → (25 ≤ tables.list_refusal_number w) × (tables.list_refusal_number w ≤ 26)
  pub unaltered : (w : refusals.ListRefusal) → list_answer t out ≡ Err w → list_into t out ≡ out

-- the writers, of any bytes, and the reader of hex data into a lent slice: where they do not write all, they write nothing
pub record WritesAllOrNothing (d : List ℕ) : Type 0 where
  pub put : (bs : List ℕ) (at : ℕ) → put_answer bs d at ≡ None → put_into bs d at ≡ d
  pub hex_full : (s : Said) (to : ℕ) → hex_into s d to ≡ Err Full → hex_put s d to ≡ d
  pub hex_wrong : (s : Said) (to at : ℕ) → hex_into s d to ≡ Err (Wrong at) → hex_put s d to ≡ d
  pub log : (r : Reading) (count : ℕ) (text : List ℕ) → record_answer r count text d ≡ None → record_into r count text d ≡ d

-- all of it: every lent slice, every text, every table with every lent buffer, every call on every box
pub record AltersNothing : Type 0 where
  pub writers : (d : List ℕ) → WritesAllOrNothing d
  pub compiler : (text : List ℕ) → RefusesText text
  pub lister : (t : Table) (out : List ℕ) → RefusesTable t out
  pub runner : (t : Table) (b : Box) (q : Call) → Refuses t b q
  pub lent : (t : Table) (b : Box) (out : List ℕ) → Spares t b out

-- "Numbers the bench reads back": no two refusals of the runner, no two faults of a text and no two refusals of the lister have one number
pub record NumbersDiffer : Type 0 where
  pub runner : (r s : RunRefusal) → run_refusal_number r ≡ run_refusal_number s → r ≡ s
  pub texts : (f g : TextFault) → texts.fault_number f ≡ texts.fault_number g → f ≡ g
  pub lister : (v w : refusals.ListRefusal) → tables.list_refusal_number v ≡ tables.list_refusal_number w → v ≡ w
