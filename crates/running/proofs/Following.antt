-- From a start on a box of the runner follows a box of the script, whatever calls come: process k says the same in a drain, and the counts at its places are
-- the script's. Assumes nothing.
use mathlib.Core.Path.{◌≡◌, refl, sym, ap, subst, ◌∙◌}
use mathlib.Core.Bool.{Bool, true, false, cond, ◌&&◌}
use mathlib.Core.List.{List, [], ◌∷◌}
use Prim.Native.Nat.{ℕ, ◌+◌, ◌<◌}
use native.Mathlib.Omega.{arith}
use lib.Dec.{eqb}
use lib.ListN.{length, get_or, length-map}
use Rattle.language.specs.declared.Table.{Table}
use Rattle.language.specs.Script.{Script, processes}
use Rattle.running.specs.Joined.{joined_in, done}
use Rattle.process.specs.State as states
use Rattle.runner.specs.Draining as draining
use Rattle.runner.specs.Draining.{nobody}
use Rattle.runner.specs.Calls as calls
use Rattle.runner.specs.Calls.{Call, start, tick, byte, reading, level, ticks, bytes, drain, Reply}
use Rattle.bounded.specs.Replies as runner
use Rattle.bounded.specs.Demand3.{tally, first_of, end_of}
use Rattle.bounded.proofs.Calling.{call_keeps}
use Rattle.bounded.proofs.Keeping.{All}
use Rattle.running.specs.Running as script
use Rattle.running.specs.Running.{Box, busy, at_first, started, called, Called}
use Rattle.running.specs.Called.{process}
use Rattle.running.specs.Neighbours.{did_one, says_in, lowest, of_script, counts_of, of_table}
use Rattle.running.proofs.Turns.{Alike, lowest_alike, alike_at}
use Rattle.running.proofs.Starts.{Bears, has_place, processes_many, process_is}
use Rattle.running.proofs.EventsAgree.{box_of, InStep, Answers, after_in_step, start_answers, busy_same}
use Rattle.running.proofs.Agreement.{call_answers, start_bounded}
use Rattle.running.proofs.Events.{event_many}
use Rattle.running.proofs.Drains.{quiet_idle, drain_many}
use Rattle.running.proofs.Counts.{Zeros, start_zeros, call_zeros, counts_by, counts_are}

-- ---- the box follows the script's box

-- it stands for it, with as many processes as the table, and counts nothing where there is no LOG
pub record Follows (t : Table) (n : ℕ) (b : calls.Box) (c : Box) (f : ℕ → ℕ) : Type 0 where
  pub in_step : InStep t n b c.processes f
  pub box : c ≡ box_of b.state c.processes
  pub many : length c.processes ≡ t.heads.processes
  pub zeros : Zeros t b.counts

module _ (t : Table) (s : Script) (n : ℕ) (a : Bears t s n) where
  -- from what a call leaves
  from_answer : {r : calls.Called} {x : Called} {f : ℕ → ℕ} (w : Answers t r x) → All t n r.box.state f → length x.box.processes ≡ t.heads.processes → Zeros t r.box.counts →
      Follows t n r.box x.box f
  from_answer {r} {x} {f} w h m z =
      let same : x.box.processes ≡ w.after = ap (λ (y : Box). y.processes) w.box in
      record {
        in_step = subst (λ (ps : List script.Process). InStep t n r.box ps f) (sym same) (after_in_step w h);
        box = w.box ∙ ap (box_of r.box.state) (sym same);
        many = m;
        zeros = z;
      }

  -- a start, whatever the boxes held before
  pub start_follows : (b : calls.Box) (c : Box) → Follows t n (runner.called t start b).box (called s start c).box (λ i. 0)
  unfolding called started done
  start_follows b c =
      from_answer (start_answers t s n a b c) (start_bounded t s n a b) (length-map (done s.body) at_first ∙ length-map (processes s.body) joined_in ∙ processes_many t s n a)
      (start_zeros t b a.fits.started)

  module _ (b : calls.Box) (c : Box) (f : ℕ → ℕ) (z : Follows t n b c f) where
    pub answers : (q : Call) → Answers t (runner.called t q b) (called s q c)
    answers q = rw (← z.box) at (call_answers t s n a b c.processes f z.in_step q)

    as_many : (q : Call) → length (called s q c).box.processes ≡ t.heads.processes
    as_many start = (start_follows b c).many
    as_many tick = event_many s tick c refl ∙ z.many
    as_many (byte x) = event_many s (byte x) c refl ∙ z.many
    as_many (reading r) = event_many s (reading r) c refl ∙ z.many
    as_many (level m on) = event_many s (level m on) c refl ∙ z.many
    as_many (ticks m) = event_many s (ticks m) c refl ∙ z.many
    as_many (bytes run room) = event_many s (bytes run room) c refl ∙ z.many
    as_many (drain room) = drain_many s room c ∙ z.many

    pub follows_on : (q : Call) → Follows t n (runner.called t q b).box (called s q c).box (tally b.state (runner.called t q b).reply f)
    follows_on q =
        from_answer (answers q) (call_keeps t n a.fits b f z.in_step.bounded q).all (as_many q) (call_zeros t b a.fits.started z.zeros q)

    pub busy_is : states.busy b.state ≡ busy c
    busy_is = rw (← z.box) at (busy_same t s n a b c.processes f z.in_step)

    -- what process k says in a drain
    pub says_in_lem : (k room : ℕ) → says_in (of_table t) k b room ≡ says_in (of_script s) k c room
    unfolding says_in busy
    says_in_lem k room = rw (answers (drain room)).reply (go (busy c) refl)
      where
        reply : Reply
        reply = (called s (drain room) c).reply

        go : (u : Bool) → busy c ≡ u → cond (did_one reply && eqb k (draining.lowest b.state.processes)) (reply ∷ []) [] ≡ cond (did_one reply && eqb k (lowest c.processes)) (reply ∷ []) []
        go true e = rw (lowest_alike t b.counts 0 b.state.processes c.processes z.in_step.alike e)
        go false e = rw (quiet_idle s c room e).reply

    own_alike : (k : ℕ) → k < t.heads.processes → Alike t k b.counts (get_or b.state.processes k nobody) (process k c)
    own_alike k l =
        let e : 0 + k ≡ k = omega arith in
        rw e at (alike_at t b.counts 0 b.state.processes c.processes z.in_step.alike k (omega (arith, z.many)))

    -- the counts at the places of process k
    pub kept_is : (k : ℕ) → counts_of t k b.counts ≡ counts_by (process k c).counts (get_or (processes s.body) k [])
    kept_is k =
        let own = a.fits.sound k in
        counts_are t b.counts (first_of t.heads k) (end_of t.heads k) own.own.inside (omega (arith, own.own.small, z.in_step.long)) z.zeros (process k c).counts
        (λ j x l g e. (own_alike k (has_place t.heads k j g)).counted j x l g e) own.order
        ∙ ap (counts_by (process k c).counts) (sym (process_is t s n a k))
