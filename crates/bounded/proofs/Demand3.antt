-- DEMAND 3: whatever calls follow a start, the processes of an accepted script's table stay within their bounds. Assumes nothing.
use mathlib.Core.Path.{◌≡◌, refl, ap, subst}
use mathlib.Core.Bool.{true}
use mathlib.Core.List.{List, [], ◌∷◌}
use Prim.Native.Nat.{ℕ}
use native.Mathlib.Omega.{arith}
use lib.ListN.{get_or, drop}
use borrow.Author.Tests.{le-ltb}
use Rattle.figures.specs.Flat.{marks_nest, beyond}
use Rattle.figures.specs.Inside.Scan.{read_at}
use Rattle.language.specs.declared.Table.{Table}
use Rattle.stretch.specs.Marks.{marks_to}
use Rattle.stretch.proofs.Marking.{marks_length}
use Rattle.process.specs.declared.Wait.{Wait}
use Rattle.process.specs.declared.Wait.TheVariants.{Ready, Over, Ticks, Bytes, Data, ClockValue, Signal}
use Rattle.process.specs.declared.Process.{Process}
use Rattle.process.specs.declared.RunRefusal.TheVariants.{BadTable}
use Rattle.process.specs.State.{run_refusal_number}
use Rattle.process.specs.Waiting.{ready_wait}
use Rattle.runner.specs.Draining.{nobody}
use Rattle.runner.specs.Calls as calls
use Rattle.runner.specs.Starting.{start_event, start_counts}
use Rattle.runner.specs.Calls.{Box, Call, Reply, event, gulp, outcome, start_call}
use Rattle.bounded.specs.Replies.{Compiles, called, taken_number, received_number, gulped_number, outcome_number, reply_number, RefusedBy}
use Rattle.bounded.specs.Demand3.{tally, CountedRun, next_call, after_calls, fresh, first_of, end_of, Safe, Bounded}
use Rattle.bounded.proofs.Held.{resting, Held}
use Rattle.bounded.proofs.Opens.{opens_length, bodies_nest}
use Rattle.bounded.proofs.Accepting.{Fitting, fitting}
use Rattle.bounded.proofs.Calling.{start_all, call_keeps}
use Rattle.bounded.proofs.Keeping.{All}
use Rattle.bounded.proofs.Quietly.{quiet_exactly}

-- what neither is ready nor rests is over
only_over : (w : Wait) → (ready_wait w ≡ true → ⊥) → (resting w ≡ true → ⊥) → w ≡ Over
only_over Ready r s = absurd (r refl)
only_over Over r s = refl
only_over (Ticks n) r s = absurd (s refl)
only_over (Bytes n) r s = absurd (s refl)
only_over (Data m) r s = absurd (s refl)
only_over (ClockValue c) r s = absurd (s refl)
only_over (Signal l) r s = absurd (s refl)

-- a reply that refuses by the refusal of a table has its number
is_25 : (y : Reply) → RefusedBy BadTable y → reply_number y ≡ 25
unfolding reply_number run_refusal_number
is_25 (event a) e = ap taken_number e
is_25 (calls.received a) e = ap received_number e
is_25 (gulp a records) e = ap gulped_number e
is_25 (outcome o bytes) e = ap outcome_number e

module _ (t : Table) (k : ℕ) (a : Fitting t k) where
  safe_at : (i n : ℕ) (p : Process) → Held (marks_to t.cells (end_of t.heads i)) (first_of t.heads i) k n p → Safe t k i n p
  safe_at i n p h =
      let long = marks_length t.cells (end_of t.heads i) (a.sound i).own.inside in
      record {
        low = h.fine.sits.low;
        high = omega (arith, h.fine.sits.high);
        few = omega (arith, opens_length p.depth p.left p.back, h.fine.sits.few);
        enclosed =
            subst (λ (d : ℕ). marks_nest d (drop p.place (marks_to t.cells (end_of t.heads i))) ≡ true) (opens_length p.depth p.left p.back)
            h.fine.sits.nested;
        bodies = bodies_nest (marks_to t.cells (end_of t.heads i)) (first_of t.heads i) p.depth p.left p.back
            (beyond (read_at (marks_to t.cells (end_of t.heads i)) p.place)) h.fine.sits.kept;
        brief = omega (arith, h.fine.brief, a.bounded);
        exact = omega (arith, h.fine.brief);
        absent = λ l.
            let none : end_of t.heads i ≡ 0 = rw (le-ltb i t.heads.processes l) in
            only_over p.wait (λ e. omega (arith, h.fine.live e)) (λ e. omega (arith, h.fine.rested e, h.fine.sits.high));
      }

  fresh_all : (b : Box) → let r = fresh t b in All t k r.box.state r.done
  unfolding fresh next_call tally calls.called start_call start_event start_counts
  fresh_all b = rw a.started (start_all t k a)

  after_all : (qs : List Call) (r : CountedRun) → All t k r.box.state r.done → All t k (after_calls t r qs).box.state (after_calls t r qs).done
  unfolding after_calls next_call
  after_all [] r h = h
  after_all (q ∷ qs) r h = after_all qs (next_call t r q) (call_keeps t k a r.box r.done h q).all

  all_bounded : (r : CountedRun) → All t k r.box.state r.done → Bounded t k r
  all_bounded r h = record {
    eight = h.eight;
    safe = λ i l. safe_at i (r.done i) (get_or r.box.state.processes i nobody) (h.every i l);
    found = λ q. (call_keeps t k a r.box r.done h q).found;
    fitting = λ q e. (call_keeps t k a r.box r.done h q).found (is_25 (called t q r.box).reply e);
    quiet = λ room. quiet_exactly t r.box h.eight room;
  }

-- THE THEOREM
pub demand_3 : {text : List ℕ} {t : Table} {k : ℕ} → Compiles text t k → (b : Box) (qs : List Call) → Bounded t k (after_calls t (fresh t b) qs)
demand_3 {t = t} {k = k} c b qs =
    let a = fitting c in
    all_bounded t k a (after_calls t (fresh t b) qs) (after_all t k a qs (fresh t b) (fresh_all t k a b))
