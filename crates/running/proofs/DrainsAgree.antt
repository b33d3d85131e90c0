-- A drain is answered alike by the runner and by the script, and leaves boxes that are alike. Assumes nothing.
use mathlib.Core.Path.{◌≡◌, refl, sym, ap, ap₂, subst, ◌∙◌}
use mathlib.Core.Bool.{Bool, true, false, cond}
use mathlib.Core.List.{List, []}
use Prim.Native.Nat.{ℕ, ◌+◌, ◌≤◌, ◌<◌}
use native.Mathlib.Omega.{arith}
use lib.Dec.{ltb}
use lib.ListN.{length, get_or, set, length-set}
use borrow.Author.Tests.{lt-ltb, le-ltb}
use Rattle.reader.proofs.Tests.{true_is_false}
use Rattle.language.specs.declared.Table.{Table}
use Rattle.language.specs.declared.Cell.{Cell}
use Rattle.language.specs.Limits.{lines_limit, process_limit}
use Rattle.language.specs.Script.{Statement, Script}
use Rattle.stretch.specs.Marks.{marks_to}
use Rattle.stretch.proofs.Marking.{marks_length}
use Rattle.accepted.specs.Accepted.{table_right}
use Rattle.process.specs.declared.Wait.{Wait}
use Rattle.process.specs.declared.Wait.TheVariants.{Ready, Over, Ticks, Bytes, Data, ClockValue, Signal}
use Rattle.process.specs.declared.Process.{Process}
use Rattle.process.specs.declared.State.{State}
use Rattle.process.specs.declared.RunRefusal.TheVariants.{SmallBuffer}
use Rattle.process.specs.Waiting.{ready_wait, ready}
use Rattle.statement.specs.Ways.{Moved}
use Rattle.statement.specs.Moving.{moved_by, moved, cell_at}
use Rattle.statement.specs.declared.outcome.Outcome.TheVariants.{Quiet, Refused}
use Rattle.statement.specs.Saying.{outcome_of, paused_by, counted_by}
use Rattle.runner.specs.Writing.{writes_for}
use Rattle.runner.specs.Draining as draining
use Rattle.runner.specs.Draining.{lowest, nobody, writes, state_after, unaltered, drained, counts_after}
use Rattle.runner.specs.Calls as calls
use Rattle.runner.specs.Calls.{Box, reading, drain, outcome, boxed}
use Rattle.bounded.specs.Demand3.{first_of, end_of}
use Rattle.bounded.proofs.Held.{Held}
use Rattle.bounded.proofs.Opens.{opens_length}
use Rattle.bounded.proofs.Moves.{Own, moved_good}
use Rattle.bounded.proofs.Several.{lowest_ready}
use Rattle.running.specs.Running as script
use Rattle.running.specs.Running.{for_nothing, statement, next_in, next_by, next, none, turn, Deed, does}
use Rattle.running.proofs.From.{from}
use Rattle.running.proofs.Alike.{Waits}
use Rattle.running.proofs.StatementsAgree.{Does, by_cell}
use Rattle.running.proofs.Turns.{Alike, One, Turned, quiet, one, turned}
use Rattle.running.proofs.Starts.{Bears, counts_apart}
use Rattle.running.proofs.EventsAgree.{box_of, InStep, Answers}

-- a process that is ready waits for nothing
ready_waits : (pool : List ℕ) (ss : List Statement) (w : Wait) (v : script.Wait) → Waits pool ss w v → ready_wait w ≡ true → v ≡ for_nothing
ready_waits pool ss Ready v h e = h.0
ready_waits pool ss Over v h e = h.0
ready_waits pool ss (Ticks n) v h e = true_is_false (sym e)
ready_waits pool ss (Bytes n) v h e = true_is_false (sym e)
ready_waits pool ss (Data m) v h e = true_is_false (sym e)
ready_waits pool ss (ClockValue c) v h e = true_is_false (sym e)
ready_waits pool ss (Signal l) v h e = true_is_false (sym e)

module _ (t : Table) (s : Script) (k : ℕ) (a : Bears t s k) (b : Box) (qs : List script.Process) (f : ℕ → ℕ) (w : InStep t k b qs f) where
  abbrev bx : script.Box
  bx = box_of b.state qs

  -- ---- a drain

  -- whatever the room, where the test of 128 bytes is made
  abbrev Drains : ℕ → Type 0
  Drains room = Answers t (calls.called table_right t (drain room) b) (script.called s (drain room) bx)

  quiet_answers : (room : ℕ) → length b.state.processes ≤ lowest b.state.processes → turn bx qs ≡ none → Drains room
  unfolding calls.called drained draining.does counts_after script.called script.drained
  quiet_answers room l n = rw (le-ltb (lowest b.state.processes) process_limit (omega (arith, w.bounded.eight)), n) (go (ltb 127 room))
    where
      go : (u : Bool) → Answers t
          (record { box = boxed (cond u (unaltered b.state Quiet) (unaltered b.state (Refused SmallBuffer))).state b.counts; reply = outcome (cond u (unaltered b.state Quiet) (unaltered b.state (Refused SmallBuffer))).outcome [] })
          (cond u (record { box = bx; reply = outcome Quiet [] }) (record { box = bx; reply = outcome (Refused SmallBuffer) [] }))
      go true = record { reply = refl; after = qs; box = refl; alike = w.alike; long = w.long }
      go false = record { reply = refl; after = qs; box = refl; alike = w.alike; long = w.long }

  module _ (low : ℕ) (e : lowest b.state.processes ≡ low) (o : One t b.counts bx 0 b.state.processes qs low) where
    abbrev p : Process
    p = get_or b.state.processes low nobody

    abbrev c : Cell
    c = cell_at t.cells p

    there : low < process_limit
    there = omega (arith, o.there, w.bounded.eight)

    held : Held (marks_to t.cells (end_of t.heads low)) (first_of t.heads low) k (f low) p
    held = w.bounded.every low there

    is_ready : ready p ≡ true
    is_ready = rw e at (lowest_ready b.state.processes (omega (arith, o.there, e)))

    abbrev own : Own t.cells t.pool (end_of t.heads low)
    own = (a.fits.sound low).own

    live : p.place < end_of t.heads low
    live = omega (arith, held.fine.live is_ready, marks_length t.cells (end_of t.heads low) own.inside)

    related : Alike t low b.counts p o.process
    related = let z : 0 + low ≡ low = omega arith in rw z at o.alike

    is_found : (moved t.cells b.state.levels p).found ≡ true
    is_found = (moved_good t.cells t.pool (first_of t.heads low) (end_of t.heads low) k (f low) own b.state.levels p held is_ready).found

    moved_is : moved t.cells b.state.levels p ≡ moved_by t.cells b.state.levels p c
    unfolding moved
    moved_is = rw (lt-ltb p.place lines_limit (omega (arith, live, own.small)), lt-ltb p.place p.end (omega (arith, live, related.ends)))

    doing : Does t.cells t.pool (first_of t.heads low) (end_of t.heads low) b.counts bx p o.process c
    doing =
        by_cell t.cells t.pool (first_of t.heads low) (end_of t.heads low) own a.long b.counts bx p o.process related held.fine.sits.low live
        (omega (arith, opens_length p.depth p.left p.back, held.fine.sits.few)) held.left held.back w.long c refl (rw moved_is at is_found)

    next_is : next o.process ≡ statement doing.statement doing.coming
    unfolding next_by next_in
    next_is =
        ap₂ next_by (ready_waits t.pool (from t.cells t.pool (end_of t.heads low) p.place) p.wait o.process.wait related.wait is_ready)
        (related.coming ∙ doing.front)

    -- what was written, what the script does, and the counts and the state after it
    abbrev wrote : List ℕ
    wrote = writes_for t.pool b.state.reading (get_or b.counts p.place 0) c

    abbrev d : Deed
    d = does bx o.process doing.coming doing.statement

    abbrev counted : List ℕ
    counted = set b.counts p.place (counted_by (get_or b.counts p.place 0) c)

    abbrev after_it : State
    after_it =
        record {
          processes = set b.state.processes low (moved t.cells b.state.levels p).process;
          reading = b.state.reading;
          levels = b.state.levels;
          paused = paused_by b.state.paused c;
        }

    done_answers : Answers t (record { box = boxed after_it counted; reply = outcome (outcome_of (length wrote) c) wrote })
        (record {
          box = record { processes = o.put d.process; reading = b.state.reading; levels = b.state.levels; paused = d.paused };
          reply = outcome d.says d.bytes;
        })
    done_answers =
        let z : 0 + low ≡ low = omega arith in
        record {
          reply = ap₂ outcome doing.says doing.bytes;
          after = o.put d.process;
          box = ap (λ (u : Bool). record { processes = o.put d.process; reading = b.state.reading; levels = b.state.levels; paused = u }) (sym doing.paused);
          alike = o.placed counted
              (λ j n. counts_apart t s k a b.counts low p.place (counted_by (get_or b.counts p.place 0) c) held.fine.sits.low live j (λ g. n (rw z g)))
              (moved t.cells b.state.levels p).process d.process
              (subst (λ (m : Moved). Alike t (0 + low) counted m.process d.process) (sym moved_is) (rw z doing.process));
          long = length-set b.counts p.place (counted_by (get_or b.counts p.place 0) c) ∙ w.long;
        }

    by_room : (u : Bool) → Answers t
        (record {
          box = boxed (cond u (record { state = after_it; outcome = outcome_of (length wrote) c }) (unaltered b.state (Refused SmallBuffer))).state (cond u counted b.counts);
          reply = outcome (cond u (record { state = after_it; outcome = outcome_of (length wrote) c }) (unaltered b.state (Refused SmallBuffer))).outcome (cond u wrote []);
        })
        (cond u
        (record {
          box = record { processes = o.put d.process; reading = b.state.reading; levels = b.state.levels; paused = d.paused };
          reply = outcome d.says d.bytes;
        })
        (record { box = bx; reply = outcome (Refused SmallBuffer) [] }))
    by_room true = done_answers
    by_room false = record { reply = refl; after = qs; box = refl; alike = w.alike; long = w.long }

    one_answers : (room : ℕ) → Drains room
    unfolding calls.called drained draining.does counts_after state_after writes script.called script.drained
    one_answers room = rw (e, lt-ltb low process_limit there, is_found, o.turns doing.statement doing.coming next_is) (by_room (ltb 127 room))

  pub drain_answers : (room : ℕ) → Drains room
  drain_answers room = go (turned t b.counts bx 0 b.state.processes qs w.alike)
    where
      go : Turned t b.counts bx 0 b.state.processes qs → Drains room
      go (quiet l n) = quiet_answers room l n
      go (one low e o) = one_answers low e o room
