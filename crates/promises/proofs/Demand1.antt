-- DEMAND 1, of the runner: a refused call has one of its numbers and alters nothing, whatever the table and the box. Assumes nothing.
use mathlib.Core.Path.{◌≡◌, refl, ap₂}
use mathlib.Core.Bool.{Bool, true, false, cond}
use mathlib.Core.List.{List, []}
use mathlib.Core.Logic.{◌⊎◌, inl, inr}
use Prim.Native.Nat.{ℕ, ◌≤◌, ◌<◌}
use native.Mathlib.Omega.{arith}
use lib.Dec.{ltb}
use lib.ListN.{length}
use lib.Seq.{sets}
use Rattle.std.specs.Prelude.{Ok, Err}
use Rattle.reader.proofs.Tests.{by_cases}
use Rattle.language.specs.declared.Table.{Table}
use Rattle.language.specs.Limits.{process_limit}
use Rattle.accepted.specs.Accepted.{table_right}
use Rattle.process.specs.declared.State.{State}
use Rattle.process.specs.declared.RunRefusal.{RunRefusal}
use Rattle.process.specs.declared.RunRefusal.TheVariants.{Busy, BadReading, NoSuchSignal, SmallBuffer, BadTable}
use Rattle.statement.specs.declared.outcome.Outcome.TheVariants.{Quiet, Sent, Recorded, Rts, Fchange, Pause, Resume, Plain, Refused}
use Rattle.process.specs.declared.Copies.{Copies}
use Rattle.process.specs.declared.Gulp.{Gulp}
use Rattle.process.specs.declared.Event.{Event}
use Rattle.runner.specs.declared.Drained.{Drained}
use Rattle.process.specs.State.{run_refusal_number, busy}
use Rattle.events.specs.Events.{refused, took, tick_event, reading_right, reading_event, level_event}
use Rattle.events.specs.Receiving.{ranges_right, byte_event}
use Rattle.events.specs.Gulps.{Gulping, bytes_gulp, gulp_took, ticks_event, bytes_event, bytes_records, records_after}
use Rattle.statement.specs.Moving.{moved, cell_at}
use Rattle.statement.specs.Saying.{outcome_of}
use Rattle.runner.specs.Draining.{lowest, turn_of, does, writes, state_after, unaltered, drained, buffer_after, counts_after}
use Rattle.runner.specs.Calls as calls
use Rattle.runner.specs.Starting.{start_event, start_counts}
use Rattle.runner.specs.Calls.{Box, Call, start, tick, byte, reading, ticks, drain, Reply, event, gulp, outcome, boxed, start_call}
use Rattle.bounded.specs.Replies.{called, taken_number, received_number, gulped_number, outcome_number, reply_number}
use Rattle.promises.specs.Demand1.{Refuses, Spares}
use Rattle.bounded.proofs.Keeping.{outcome_did}

-- ---- the numbers

abbrev Numbered : ℕ → Type 0
Numbered n = (n ≡ 0) ⊎ ((21 ≤ n) × (n ≤ 25))

refusal_numbered : (r : RunRefusal) → Numbered (run_refusal_number r)
unfolding run_refusal_number
refusal_numbered Busy = inr (omega arith, omega arith)
refusal_numbered BadReading = inr (omega arith, omega arith)
refusal_numbered NoSuchSignal = inr (omega arith, omega arith)
refusal_numbered SmallBuffer = inr (omega arith, omega arith)
refusal_numbered BadTable = inr (omega arith, omega arith)

reply_numbered : (r : Reply) → Numbered (reply_number r)
unfolding reply_number
reply_numbered (event (Ok tt)) = inl refl
reply_numbered (event (Err r)) = refusal_numbered r
reply_numbered (calls.received (Ok c)) = inl refl
reply_numbered (calls.received (Err r)) = refusal_numbered r
reply_numbered (gulp (Ok g) records) = inl refl
reply_numbered (gulp (Err r) records) = refusal_numbered r
reply_numbered (outcome Quiet bytes) = inl refl
reply_numbered (outcome (Sent n) bytes) = inl refl
reply_numbered (outcome (Recorded n) bytes) = inl refl
reply_numbered (outcome (Rts s) bytes) = inl refl
reply_numbered (outcome Fchange bytes) = inl refl
reply_numbered (outcome Pause bytes) = inl refl
reply_numbered (outcome Resume bytes) = inl refl
reply_numbered (outcome Plain bytes) = inl refl
reply_numbered (outcome (Refused r) bytes) = refusal_numbered r

-- ---- the box

module _ (b : Box) where
  -- an event that is refused leaves the box, by its tests
  abbrev Leaves : Event (Unit {0}) → Type 0
  Leaves e = 0 < taken_number e.answer → boxed e.state b.counts ≡ b

  abbrev LeavesByte : Event Copies → Type 0
  LeavesByte e = 0 < received_number e.answer → boxed e.state b.counts ≡ b

  abbrev LeavesGulp : Event Gulp → Type 0
  LeavesGulp e = 0 < gulped_number e.answer → boxed e.state b.counts ≡ b

  took_leaves : (s : State) → Leaves (took s)
  took_leaves s l = absurd (omega arith)

  refused_leaves : (r : RunRefusal) → Leaves (refused b.state r)
  refused_leaves r l = refl

-- what the three tests of a drain decide: where it is refused it does no statement
drain_leaves : (one found room : Bool) (s : State) (d : Drained) (out written : List ℕ) → outcome_number d.outcome ≡ 0 →
    let r : Drained =
    cond one (cond found (cond room d (unaltered s (Refused SmallBuffer))) (unaltered s (Refused BadTable)))
    (cond room (unaltered s Quiet) (unaltered s (Refused SmallBuffer)))
    in
    0 < outcome_number r.outcome → (r.state ≡ s) × (cond (cond one (cond found room false) false) written out ≡ out)
drain_leaves true true true s d out written e l = absurd (omega arith)
drain_leaves true true false s d out written e l = (refl, refl)
drain_leaves true false room s d out written e l = (refl, refl)
drain_leaves false found true s d out written e l = absurd (omega arith)
drain_leaves false found false s d out written e l = (refl, refl)

-- what the two tests of a run of bytes decide: where it is refused it records nothing
gulp_spares : (right ready : Bool) (s : State) (g : Gulping State) (out : List ℕ) →
    0 < gulped_number (cond right (cond ready (refused s Busy) (gulp_took g)) (refused s BadTable)).answer →
    sets out 0 (cond right (cond ready [] g.records) []) ≡ out
gulp_spares true true s g out l = refl
gulp_spares true false s g out l = absurd (omega arith)
gulp_spares false ready s g out l = refl

module _ (t : Table) (b : Box) where
  drain_both : (room : ℕ) (out written : List ℕ) → 0 < outcome_number (drained t.cells t.pool b.state b.counts room).outcome →
      ((drained t.cells t.pool b.state b.counts room).state ≡ b.state) × (cond (does t.cells b.state room) written out ≡ out)
  unfolding drained does
  drain_both room out written l =
      drain_leaves (ltb (lowest b.state.processes) process_limit) (moved t.cells b.state.levels (turn_of b.state)).found (ltb 127 room) b.state
      (record { state = state_after t.cells b.state; outcome = outcome_of (length (writes t.cells t.pool b.state b.counts)) (cell_at t.cells (turn_of b.state)) })
      out written (outcome_did (length (writes t.cells t.pool b.state b.counts)) (cell_at t.cells (turn_of b.state))).1 l

  start_leaves : (right : Bool) → 0 < reply_number (event (start_event right t.heads b.state).answer) →
      boxed (start_event right t.heads b.state).state (start_counts right b.counts) ≡ b
  unfolding start_event start_counts reply_number
  start_leaves true l = absurd (omega arith)
  start_leaves false l = refl

  leaves : (q : Call) → 0 < reply_number (called t q b).reply → (called t q b).box ≡ b
  unfolding calls.called start_call tick_event reading_event level_event byte_event ticks_event bytes_event reply_number counts_after
  leaves start = start_leaves (table_right t)
  leaves tick = by_cases (Leaves b) (busy b.state) _ _ (λ e. refused_leaves b Busy) (λ e. took_leaves b _)
  leaves (byte x) =
      by_cases (LeavesByte b) (ranges_right t.heads b.state) _ _
      (λ e. by_cases (LeavesByte b) (busy b.state) _ _ (λ u l. refl) (λ u l. absurd (omega arith)))
      (λ e l. refl)
  leaves (reading r) =
      by_cases (Leaves b) (busy b.state) _ _ (λ e. refused_leaves b Busy)
      (λ e. by_cases (Leaves b) (reading_right r) _ _ (λ u. took_leaves b _) (λ u. refused_leaves b BadReading))
  leaves (calls.level n on) =
      by_cases (Leaves b) (busy b.state) _ _ (λ e. refused_leaves b Busy)
      (λ e. by_cases (Leaves b) (ltb n 5) _ _ (λ u. took_leaves b _) (λ u. refused_leaves b NoSuchSignal))
  leaves (ticks n) = by_cases (LeavesGulp b) (busy b.state) _ _ (λ e l. refl) (λ e l. absurd (omega arith))
  leaves (calls.bytes run room) =
      by_cases (LeavesGulp b) (ranges_right t.heads b.state) _ _
      (λ e. by_cases (LeavesGulp b) (busy b.state) _ _ (λ u l. refl) (λ u l. absurd (omega arith)))
      (λ e l. refl)
  leaves (drain room) = λ l. let r = drain_both room b.counts _ l in ap₂ boxed r.0 r.1

  pub demand_1 : (q : Call) → Refuses t b q
  demand_1 q = record { numbered = reply_numbered (called t q b).reply; unaltered = leaves q }

  pub demand_1_lent : (out : List ℕ) → Spares t b out
  unfolding buffer_after bytes_event bytes_records records_after
  demand_1_lent out = record {
    buffer = λ l. (drain_both (length out) out _ l).1;
    records = λ run l. gulp_spares (ranges_right t.heads b.state) (busy b.state) b.state (bytes_gulp t.pool t.heads b.state run (length out)) out l;
  }
