-- A byte counts for waits in every case; an event is taken only when no process is ready; a drain does one statement of one process. Assumes nothing.
use mathlib.Core.Path.{◌≡◌, refl, sym, ap, ◌∙◌}
use mathlib.Core.Bool.{Bool, true, false, cond}
use mathlib.Core.List.{List, [], map}
use Prim.Native.Nat.{ℕ}
use native.Mathlib.Omega.{arith}
use lib.Dec.{ltb}
use lib.ListN.{length, get_or, take, replicate}
use lib.Seq.{get_or-set_same, get_or-set_other}
use borrow.Author.Tests.{ltb-true, ltb-false}
use Rattle.std.specs.Prelude.{Ok, Err}
use Rattle.reader.proofs.Tests.{true_is_false, by_cases}
use Rattle.language.specs.declared.Heads.{Heads}
use Rattle.language.specs.declared.Table.{Table}
use Rattle.language.specs.Limits.{process_limit}
use Rattle.process.specs.declared.Process.{Process}
use Rattle.process.specs.declared.State.{State}
use Rattle.process.specs.declared.Copies.{Copies}
use Rattle.process.specs.declared.RunRefusal.{RunRefusal}
use Rattle.process.specs.declared.RunRefusal.TheVariants.{Busy, BadReading, NoSuchSignal, SmallBuffer, BadTable}
use Rattle.statement.specs.declared.outcome.Outcome.TheVariants.{Quiet, Refused}
use Rattle.process.specs.declared.Gulp.{Gulp}
use Rattle.process.specs.declared.Event.{Event}
use Rattle.runner.specs.declared.Drained.{Drained}
use Rattle.process.specs.Waiting.{byte_taken}
use Rattle.process.specs.State.{busy}
use Rattle.events.specs.Events.{refused, took, tick_event, reading_right, reading_event, level_event}
use Rattle.events.specs.Receiving.{answered_with, ranges_right, byte_event}
use Rattle.events.specs.Gulps.{Gulping, ticks_gulp, bytes_gulp, gulp_took, ticks_event, bytes_event}
use Rattle.statement.specs.Moving.{moved, cell_at}
use Rattle.statement.specs.Saying.{outcome_of}
use Rattle.runner.specs.Draining.{lowest, nobody, turn_of, does, writes, unaltered, state_after, drained, counts_after}
use Rattle.runner.specs.Calls as calls
use Rattle.runner.specs.Calls.{Box, Call, start, tick, byte, reading, level, ticks, bytes, drain, boxed, answered_by, received_by, gulped_by}
use Rattle.bounded.specs.Replies.{called, is_event}
use Rattle.bounded.specs.Replies as replies
use Rattle.promises.specs.Turns.{with_paused, CountsAlways, TakenWhenQuiet, OneStatement}
use Rattle.bounded.proofs.Several.{busy_lowest}
use Rattle.promises.specs.Gulps.{box_after}
use Rattle.promises.proofs.Gulps.{ticks_came, bytes_came}

-- ---- "It counts for waits in every case"

module _ (pool : List ℕ) (h : Heads) (s : State) (b : ℕ) where
  counts_taken : (right ready : Bool) (c k : Copies) (taken : State) → taken.processes ≡ map (byte_taken pool b) s.processes
      → (cond right (cond ready (answered_with s (Err Busy)) (answered_with taken (Ok k))) (answered_with s (Err BadTable))).answer ≡ Ok c
      → (cond right (cond ready (answered_with s (Err Busy)) (answered_with taken (Ok k))) (answered_with s (Err BadTable))).state.processes
      ≡ map (byte_taken pool b) s.processes
  counts_taken true true c k taken e q = true_is_false (cc)
  counts_taken true false c k taken e q = e
  counts_taken false ready c k taken e q = true_is_false (cc)

  alike_by : (right ready : Bool) (paused : Bool) (k l : Copies) (ps : List Process) →
      (cond right (cond ready (answered_with (with_paused s paused) (Err Busy)) (answered_with (record { processes = ps; reading = s.reading; levels = s.levels; paused = paused }) (Ok k))) (answered_with (with_paused s paused) (Err BadTable))).state.processes
      ≡ (cond right (cond ready (answered_with s (Err Busy)) (answered_with (record { processes = ps; reading = s.reading; levels = s.levels; paused = s.paused }) (Ok l))) (answered_with s (Err BadTable))).state.processes
  alike_by true true paused k l ps = refl
  alike_by true false paused k l ps = refl
  alike_by false ready paused k l ps = refl

  ranges_alike : (g : Heads) (paused : Bool) → ranges_right g (with_paused s paused) ≡ ranges_right g s
  unfolding ranges_right
  ranges_alike g paused = refl

  busy_alike : (paused : Bool) → busy (with_paused s paused) ≡ busy s
  unfolding busy
  busy_alike paused = refl

  pub counts_always : CountsAlways pool h s b
  unfolding byte_event
  counts_always = record {
    counts = λ c q. counts_taken (ranges_right h s) (busy s) c _ _ refl q;
    alike = λ g paused e. rw (ranges_alike g paused ∙ e, busy_alike paused) (alike_by (ranges_right h s) (busy s) paused _ _ _);
  }

-- ---- "An event is taken only when no process is ready"

module _ (b : Box) where
  abbrev Fair : Event (Unit {0}) → Type 0
  Fair e = TakenWhenQuiet b (answered_by b.counts e)

  -- refused, it alters nothing
  refused_fair : (r : RunRefusal) → Fair (refused b.state r)
  unfolding replies.was_taken
  refused_fair r = record { only = λ e. true_is_false (sym e); unaltered = λ e. refl }

  module _ (quiet : busy b.state ≡ false) where
    took_fair : (s : State) → Fair (took s)
    unfolding replies.was_taken
    took_fair s = record { only = λ e. quiet; unaltered = λ e. true_is_false e }

    -- by a test of its own
    only_if : (u : Bool) (s : State) (r : RunRefusal) → Fair (cond u (took s) (refused b.state r))
    only_if u s r = by_cases Fair u (took s) (refused b.state r) (λ v. took_fair s) (λ v. refused_fair r)

  unless_busy : (e : Event (Unit {0})) → (busy b.state ≡ false → Fair e) → Fair (cond (busy b.state) (refused b.state Busy) e)
  unless_busy e f = by_cases Fair (busy b.state) (refused b.state Busy) e (λ u. refused_fair Busy) f

  abbrev FairByte : Event Copies → Type 0
  FairByte e = TakenWhenQuiet b (received_by b.counts e)

  refused_byte : (r : RunRefusal) → FairByte (answered_with b.state (Err r))
  unfolding replies.was_taken
  refused_byte r = record { only = λ e. true_is_false (sym e); unaltered = λ e. refl }

  took_byte_lem : (s : State) (c : Copies) → busy b.state ≡ false → FairByte (answered_with s (Ok c))
  unfolding replies.was_taken
  took_byte_lem s c quiet = record { only = λ e. quiet; unaltered = λ e. true_is_false e }

  byte_fair : (pool : List ℕ) (h : Heads) (x : ℕ) → FairByte (byte_event pool h b.state x)
  unfolding byte_event
  byte_fair pool h x =
      by_cases FairByte (ranges_right h b.state) _ _
      (λ u. by_cases FairByte (busy b.state) _ _ (λ v. refused_byte Busy) (λ v. took_byte_lem _ _ v))
      (λ u. refused_byte BadTable)

  -- a gulp too: one that takes none leaves the box
  abbrev FairGulp : List ℕ → Event Gulp → Type 0
  FairGulp records e = TakenWhenQuiet b (gulped_by b.counts e records)

  refused_gulp : (records : List ℕ) (r : RunRefusal) → FairGulp records (refused b.state r)
  unfolding replies.was_taken
  refused_gulp records r = record { only = λ e. true_is_false (sym e); unaltered = λ e. refl }

  took_gulp : (records : List ℕ) (g : Gulping State) (after : ℕ → Box) → after 0 ≡ b → boxed g.box b.counts ≡ after g.taken → busy b.state ≡ false → FairGulp records (gulp_took g)
  unfolding replies.was_taken
  took_gulp records g after first e quiet = record {
    only = λ u. quiet;
    unaltered = λ u. let none : g.taken ≡ 0 = omega (arith, ltb-false 0 g.taken u) in e ∙ ap after none ∙ first;
  }

  ticks_fair : (t : Table) (n : ℕ) → FairGulp [] (ticks_event b.state n)
  unfolding ticks_event box_after
  ticks_fair t n =
      by_cases (FairGulp []) (busy b.state) _ _ (λ u. refused_gulp [] Busy)
      (λ u. took_gulp [] (ticks_gulp b.state n) (λ k. box_after t b (replicate k tick)) refl (ticks_came t b.counts b.state n u).box u)

  bytes_fair : (t : Table) (run : List ℕ) (room : ℕ) (records : List ℕ) → FairGulp records (bytes_event t.pool t.heads b.state run room)
  unfolding bytes_event box_after
  bytes_fair t run room records =
      by_cases (FairGulp records) (ranges_right t.heads b.state) _ _
      (λ r. by_cases (FairGulp records) (busy b.state) _ _ (λ u. refused_gulp records Busy)
      (λ u. took_gulp records (bytes_gulp t.pool t.heads b.state run room) (λ k. box_after t b (map byte (take k run))) refl
      (bytes_came t b.counts b.state run room u r).box u))
      (λ r. refused_gulp records BadTable)

  pub taken_when_quiet : (t : Table) (q : Call) → is_event q ≡ true → TakenWhenQuiet b (called t q b)
  unfolding calls.called tick_event reading_event level_event
  taken_when_quiet t start e = true_is_false (sym e)
  taken_when_quiet t tick e = unless_busy _ (λ u. took_fair u _)
  taken_when_quiet t (byte x) e = byte_fair t.pool t.heads x
  taken_when_quiet t (reading r) e = unless_busy _ (λ u. only_if u (reading_right r) _ BadReading)
  taken_when_quiet t (level n on) e = unless_busy _ (λ u. only_if u (ltb n 5) _ NoSuchSignal)
  taken_when_quiet t (ticks n) e = ticks_fair t n
  taken_when_quiet t (bytes run room) e = bytes_fair t run room _
  taken_when_quiet t (drain room) e = true_is_false (sym e)

-- ---- "A drain does one statement of the lowest-numbered ready process"

module _ (t : Table) (b : Box) (room : ℕ) where
  -- the state after a drain, by whether it does a statement
  state_by : (one found wide : Bool) (s : State) (d : Drained) →
      (cond one (cond found (cond wide d (unaltered s (Refused SmallBuffer))) (unaltered s (Refused BadTable)))
      (cond wide (unaltered s Quiet) (unaltered s (Refused SmallBuffer)))).state
      ≡ cond (cond one (cond found wide false) false) d.state s
  state_by true true true s d = refl
  state_by true true false s d = refl
  state_by true false wide s d = refl
  state_by false found true s d = refl
  state_by false found false s d = refl

  state_is : (drained t.cells t.pool b.state b.counts room).state ≡ cond (does t.cells b.state room) (state_after t.cells b.state) b.state
  unfolding drained does
  state_is =
      let n : ℕ = length (writes t.cells t.pool b.state b.counts) in
      state_by (ltb (lowest b.state.processes) process_limit) (moved t.cells b.state.levels (turn_of b.state)).found (ltb 127 room) b.state
      (record { state = state_after t.cells b.state; outcome = outcome_of n (cell_at t.cells (turn_of b.state)) })

  abbrev after : State
  after = (called t (drain room) b).box.state

  after_is : after ≡ cond (does t.cells b.state room) (state_after t.cells b.state) b.state
  unfolding calls.called
  after_is = state_is

  others_as : (i : ℕ) → (i ≡ lowest b.state.processes → ⊥) → (u : Bool) →
      get_or (cond u (state_after t.cells b.state) b.state).processes i nobody ≡ get_or b.state.processes i nobody
  unfolding state_after
  others_as i n true = get_or-set_other b.state.processes (lowest b.state.processes) i _ nobody n
  others_as i n false = refl

  lowest_in : does t.cells b.state room ≡ true → ltb (lowest b.state.processes) process_limit ≡ true
  unfolding does
  lowest_in e = go (ltb (lowest b.state.processes) process_limit) _ e
    where
      go : (u v : Bool) → cond u v false ≡ true → u ≡ true
      go true v q = refl
      go false v q = q

  box_as : does t.cells b.state room ≡ false → (called t (drain room) b).box ≡ b
  unfolding calls.called counts_after
  box_as e = let s : (drained t.cells t.pool b.state b.counts room).state ≡ b.state = state_is ∙ rw e in rw (s, e)

  pub one_statement_lem : length b.state.processes ≡ process_limit → OneStatement t b room
  unfolding state_after busy
  one_statement_lem eight = record {
    others = λ i n. ap (λ (s : State). get_or s.processes i nobody) after_is ∙ others_as i n (does t.cells b.state room);
    one = λ e.
        let l = ltb-true (lowest b.state.processes) process_limit (lowest_in e) in
        let s : after ≡ state_after t.cells b.state = after_is ∙ rw e in
        ap (λ (s : State). get_or s.processes (lowest b.state.processes) nobody) s
        ∙ get_or-set_same b.state.processes (lowest b.state.processes) _ nobody (omega arith);
    ready = λ e. busy_lowest b.state.processes ∙ rw eight (lowest_in e);
    none = box_as;
  }
