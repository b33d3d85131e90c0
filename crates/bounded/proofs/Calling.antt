-- Every call leaves the processes of an accepted script's table within their bounds, and none is answered 25. Assumes nothing.
use mathlib.Core.Path.{◌≡◌, refl, ◌∙◌}
use mathlib.Core.Bool.{Bool, false, cond}
use mathlib.Core.List.{List, [], map}
use Prim.Native.Nat.{ℕ, suc, ◌+◌, ◌<◌}
use native.Mathlib.Decide.{ℕ_discrete}
use native.Mathlib.Omega.{arith}
use lib.Dec.{eqb, ltb}
use lib.ListN.{length, get_or, set, length-set}
use lib.Seq.{get_or-set_same, get_or-set_other}
use borrow.Author.Tests.{ltb-true, eq-eqb, ne_eqb}
use Rattle.std.specs.Prelude.{Ok, Err}
use Rattle.reader.proofs.Tests.{by_cases}
use Rattle.language.specs.declared.Heads.{Heads}
use Rattle.language.specs.declared.Table.{Table}
use Rattle.language.specs.declared.Cell.{Cell}
use Rattle.language.specs.Limits.{process_limit}
use Rattle.language.specs.Cell.{level}
use Rattle.stretch.specs.Marks.{begins_at, ends_at, marks_to}
use Rattle.process.specs.declared.Process.{Process}
use Rattle.process.specs.declared.State.{State}
use Rattle.process.specs.declared.RunRefusal.{RunRefusal}
use Rattle.process.specs.declared.RunRefusal.TheVariants.{Busy, BadReading, NoSuchSignal, SmallBuffer}
use Rattle.statement.specs.declared.outcome.Outcome.TheVariants.{Quiet, Refused}
use Rattle.process.specs.declared.Copies.{Copies}
use Rattle.process.specs.declared.Gulp.{Gulp}
use Rattle.process.specs.declared.Event.{Event}
use Rattle.runner.specs.declared.Drained.{Drained}
use Rattle.process.specs.Waiting.{ticked, byte_taken, reading_taken, level_taken}
use Rattle.events.specs.Recording.{times_recorded}
use Rattle.process.specs.State.{run_refusal_number, busy, with_processes}
use Rattle.events.specs.Events.{refused, took, tick_event, reading_right, reading_event, level_event}
use Rattle.events.specs.Receiving.{byte_event}
use Rattle.events.specs.Gulps.{Gulping, ticks_gulp, bytes_gulp, gulp_took, ticks_event, bytes_event}
use Rattle.statement.specs.Moving.{moved, cell_at}
use Rattle.statement.specs.Saying.{outcome_of}
use Rattle.runner.specs.Draining.{lowest, nobody, turn_of, writes, state_after, unaltered, drained}
use Rattle.runner.specs.Starting.{started, start_state, no_counts, start_event, start_counts}
use Rattle.runner.specs.Calls as calls
use Rattle.runner.specs.Calls.{Box, Call, start, tick, byte, reading, ticks, drain, outcome, boxed, answered_by, received_by, gulped_by, start_call}
use Rattle.bounded.specs.Replies.{called, reply_number}
use Rattle.bounded.specs.Demand3.{tally, first_of, end_of}
use Rattle.bounded.proofs.Held.{Held, Good}
use Rattle.bounded.proofs.Moves.{moved_good}
use Rattle.bounded.proofs.Waits.{reading_good, level_good}
use Rattle.bounded.proofs.Accepting.{Fitting}
use Rattle.bounded.proofs.Several.{lowest_ready, started_length, started_at}
use Rattle.bounded.proofs.Keeping.{All, Keeps, start_held, started_is, outcome_did}
use Rattle.bounded.proofs.Changing.{AllAfter, changed_all, ranges_right_lem, tick_all, byte_all, ticks_all, bytes_all}

module _ (t : Table) (k : ℕ) (a : Fitting t k) where
  abbrev hs : Heads
  hs = t.heads

  pub start_all : All t k (start_state hs) (λ i. 0)
  unfolding start_state started
  start_all = record {
    eight = started_length hs 0 process_limit;
    every = λ i l.
        let e : 0 + i ≡ i = omega arith in
        rw (started_at hs 0 process_limit i l, e, started_is (ltb i hs.processes) (begins_at hs i) (ends_at hs i))
        (start_held t.cells t.pool k (first_of hs i) (end_of hs i) (a.sound i));
  }

  module _ (b : Box) (f : ℕ → ℕ) (h : All t k b.state f) where
    -- ---- events

    took_keeps : (counts : List ℕ) (s : State) → All t k s (λ i. 0) → Keeps t k b f (answered_by counts (took s))
    unfolding tally reply_number
    took_keeps counts s c = record { all = c; found = λ e. omega arith }

    refused_keeps : (r : RunRefusal) → (run_refusal_number r ≡ 25 → ⊥) → Keeps t k b f (answered_by b.counts (refused b.state r))
    unfolding tally reply_number
    refused_keeps r n = record { all = h; found = n }

    busy_keeps : Keeps t k b f (answered_by b.counts (refused b.state Busy))
    unfolding run_refusal_number
    busy_keeps = refused_keeps Busy (λ e. omega arith)

    -- an event is answered 21, or it goes on
    unless_busy : (e : Event (Unit {0})) → Keeps t k b f (answered_by b.counts e) → Keeps t k b f (answered_by b.counts (cond (busy b.state) (refused b.state Busy) e))
    unless_busy e c =
        by_cases (λ (x : Event (Unit {0})). Keeps t k b f (answered_by b.counts x)) (busy b.state) (refused b.state Busy) e (λ u. busy_keeps) (λ u. c)

    -- and then by a test of its own, or it is taken
    only_if : (u : Bool) (s : State) (r : RunRefusal) → All t k s (λ i. 0) → (run_refusal_number r ≡ 25 → ⊥) →
        Keeps t k b f (answered_by b.counts (cond u (took s) (refused b.state r)))
    only_if u s r c n =
        by_cases (λ (x : Event (Unit {0})). Keeps t k b f (answered_by b.counts x)) u (took s) (refused b.state r) (λ v. took_keeps b.counts s c) (λ v. refused_keeps r n)

    byte_keeps : (x : ℕ) → Keeps t k b f (received_by b.counts (byte_event t.pool hs b.state x))
    unfolding byte_event tally reply_number run_refusal_number
    byte_keeps x =
        let s : State = b.state in
        let took : Event Copies =
        record { state = with_processes s (map (byte_taken t.pool x) s.processes); answer = Ok (record { count = times_recorded hs s.paused x }) }
        in
        rw (ranges_right_lem t k a s f h)
        (by_cases (λ (e : Event Copies). Keeps t k b f (received_by b.counts e)) (busy s) (record { state = s; answer = Err Busy }) took
        (λ u. record { all = h; found = λ e. omega arith })
        (λ u. record { all = byte_all t k a s f h x; found = λ e. omega arith }))

    -- ---- gulps

    gulp_busy : (records : List ℕ) → Keeps t k b f (gulped_by b.counts (refused b.state Busy) records)
    unfolding tally reply_number run_refusal_number
    gulp_busy records = record { all = h; found = λ e. omega arith }

    gulp_took_lem : (g : Gulping State) (records : List ℕ) → AllAfter t k g f → Keeps t k b f (gulped_by b.counts (gulp_took g) records)
    unfolding tally reply_number
    gulp_took_lem g records c = record { all = c; found = λ e. omega arith }

    -- a gulp is answered 21, or it goes on
    gulp_keeps : (g : Gulping State) (records : List ℕ) → (busy b.state ≡ false → AllAfter t k g f) →
        Keeps t k b f (gulped_by b.counts (cond (busy b.state) (refused b.state Busy) (gulp_took g)) records)
    gulp_keeps g records c =
        by_cases (λ (e : Event Gulp). Keeps t k b f (gulped_by b.counts e records)) (busy b.state) (refused b.state Busy) (gulp_took g)
        (λ u. gulp_busy records) (λ u. gulp_took_lem g records (c u))

    ticks_keeps : (n : ℕ) → Keeps t k b f (gulped_by b.counts (ticks_event b.state n) [])
    unfolding ticks_event
    ticks_keeps n = gulp_keeps (ticks_gulp b.state n) [] (ticks_all t k a b.state f h n)

    bytes_keeps : (run : List ℕ) (room : ℕ) (records : List ℕ) → Keeps t k b f (gulped_by b.counts (bytes_event t.pool hs b.state run room) records)
    unfolding bytes_event
    bytes_keeps run room records =
        rw (ranges_right_lem t k a b.state f h)
        (gulp_keeps (bytes_gulp t.pool hs b.state run room) records (bytes_all t k a b.state f h run room))

    -- ---- a drain

    -- process i in place of what it was, one statement on
    put : (i : ℕ) (p : Process) → i < process_limit → Held (marks_to t.cells (end_of hs i)) (first_of hs i) k (suc (f i)) p → (j : ℕ) → j < process_limit → Dec (j ≡ i) →
        Held (marks_to t.cells (end_of hs j)) (first_of hs j) k (cond (eqb j i) (suc (f j)) (f j)) (get_or (set b.state.processes i p) j nobody)
    put i p lt c j l (yes e) = rw (e, eq-eqb i i refl, get_or-set_same b.state.processes i p nobody (omega (arith, h.eight))) c
    put i p lt c j l (no e) = rw (ne_eqb j i e, get_or-set_other b.state.processes i j p nobody e) (h.every j l)

    -- whatever the counts and the written bytes
    abbrev Drains : Drained → Type 0
    Drains d = (counts bytes : List ℕ) → Keeps t k b f (record { box = boxed d.state counts; reply = outcome d.outcome bytes })

    small_keeps : Drains (unaltered b.state (Refused SmallBuffer))
    unfolding tally reply_number run_refusal_number
    small_keeps counts bytes = record { all = h; found = λ e. omega arith }

    quiet_keeps : Drains (unaltered b.state Quiet)
    unfolding tally reply_number
    quiet_keeps counts bytes = record { all = h; found = λ e. omega arith }

    module _ (lt : lowest b.state.processes < process_limit) where
      abbrev i : ℕ
      i = lowest b.state.processes

      statement : Good (marks_to t.cells (end_of hs i)) (first_of hs i) k (suc (f i)) (moved t.cells b.state.levels (turn_of b.state))
      statement =
          moved_good t.cells t.pool (first_of hs i) (end_of hs i) k (f i) (a.sound i).own b.state.levels (turn_of b.state) (h.every i lt)
          (lowest_ready b.state.processes (omega (arith, h.eight)))

      done_keeps : (n : ℕ) → Drains (record { state = state_after t.cells b.state; outcome = outcome_of n (cell_at t.cells (turn_of b.state)) })
      unfolding tally reply_number state_after
      done_keeps n counts bytes =
          let c : Cell = cell_at t.cells (turn_of b.state) in
          let p : Process = (moved t.cells b.state.levels (turn_of b.state)).process in
          record {
            all = record {
              eight = length-set b.state.processes i p ∙ h.eight;
              every = λ j l. rw (outcome_did n c).0 (put i p lt statement.held j l (ℕ_discrete j i));
            };
            found = λ e. omega (arith, (outcome_did n c).1);
          }

    drain_keeps : (counts : List ℕ) (room : ℕ) → Drains (drained t.cells t.pool b.state counts room)
    unfolding drained
    drain_keeps counts room =
        by_cases Drains (ltb (lowest b.state.processes) process_limit) _ _
        (λ e.
        let lt = ltb-true (lowest b.state.processes) process_limit e in
        rw (statement lt).found (by_cases Drains (ltb 127 room) _ _ (λ u. done_keeps lt (length (writes t.cells t.pool b.state counts))) (λ u. small_keeps)))
        (λ e. by_cases Drains (ltb 127 room) _ _ (λ u. quiet_keeps) (λ u. small_keeps))

    -- ---- every call

    pub call_keeps : (q : Call) → Keeps t k b f (called t q b)
    unfolding calls.called start_call start_event start_counts tick_event reading_event level_event run_refusal_number
    call_keeps start = rw a.started (took_keeps no_counts (start_state hs) start_all)
    call_keeps tick =
        let s : State = b.state in
        unless_busy (took (with_processes s (map ticked s.processes)))
        (took_keeps b.counts (with_processes s (map ticked s.processes)) (tick_all t k a s f h))
    call_keeps (byte x) = byte_keeps x
    call_keeps (reading r) =
        let s : State = b.state in
        let after : State = record { processes = map (reading_taken r) s.processes; reading = r; levels = s.levels; paused = s.paused } in
        unless_busy (cond (reading_right r) (took after) (refused s BadReading))
        (only_if (reading_right r) after BadReading (changed_all t k a s f h (reading_taken r) refl (λ ms first n p c. reading_good ms first k n p c r) r s.levels s.paused)
        (λ e. omega arith))
    call_keeps (calls.level n on) =
        let s : State = b.state in
        let after : State =
        record { processes = map (level_taken (level n on)) s.processes; reading = s.reading; levels = set s.levels n on; paused = s.paused }
        in
        unless_busy (cond (ltb n 5) (took after) (refused s NoSuchSignal))
        (only_if (ltb n 5) after NoSuchSignal
        (changed_all t k a s f h (level_taken (level n on)) refl (λ ms first m p c. level_good ms first k m p c (level n on)) s.reading (set s.levels n on) s.paused)
        (λ e. omega arith))
    call_keeps (ticks n) = ticks_keeps n
    call_keeps (calls.bytes run room) = bytes_keeps run room _
    call_keeps (drain room) = drain_keeps b.counts room _ _
