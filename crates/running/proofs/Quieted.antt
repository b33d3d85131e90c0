-- So many drains leave no process ready, whatever calls came since the start: each does one statement, and none does more than 4,097. Assumes nothing.
use mathlib.Core.Path.{◌≡◌, refl, sym, ap, ap₂, subst, ◌∙◌}
use mathlib.Core.Bool.{Bool, true, false, cond, not}
use mathlib.Core.List.{List, [], ◌∷◌, map}
use Prim.Native.Nat.{ℕ, zero, suc, ◌+◌, ◌*◌, ◌≤◌, ◌<◌}
use native.Mathlib.Decide.{ℕ_discrete}
use native.Mathlib.Omega.{arith}
use lib.Dec.{eqb}
use lib.ListN.{length}
use borrow.Author.Tests.{ltb-true, eq-eqb, ne_eqb}
use Rattle.reader.proofs.Tests.{both, both_left, both_right, true_is_false}
use Rattle.figures.specs.Cap.{over}
use Rattle.language.specs.declared.Table.{Table}
use Rattle.language.specs.Limits.{process_limit, wide}
use Rattle.language.specs.Script.{Script}
use Rattle.language.specs.Table.{script_of}
use Rattle.process.specs.State as states
use Rattle.process.specs.State.{any}
use Rattle.process.specs.Waiting.{ready}
use Rattle.runner.specs.Draining as draining
use Rattle.runner.specs.Calls as calls
use Rattle.runner.specs.Starting.{start_event}
use Rattle.runner.specs.Calls.{Call, start, tick, byte, reading, level, ticks, bytes, drain, outcome, start_call}
use Rattle.bounded.specs.Replies as runner
use Rattle.bounded.specs.Replies.{was_taken, is_event}
use Rattle.bounded.specs.Demand3.{tally, next_call, after_calls, fresh}
use Rattle.bounded.specs.Demand3 as demand3
use Rattle.bounded.proofs.Several.{busy_lowest}
use Rattle.running.specs.Running.{Box, busy, Deed, does, Called, started, called}
use Rattle.running.specs.Neighbours.{Fed, calls_of, is_single, drained_by, fed_with, quietly, accepted, of_script, enough, Quiets, in_range, HasRuns}
use Rattle.running.proofs.Starts.{Bears}
use Rattle.running.proofs.Drains.{says_so, one_statement_lem, quiet_idle}
use Rattle.running.proofs.Following.{Follows, start_follows, answers, follows_on, busy_is}
use Rattle.running.proofs.SameRuns.{drained}
use Rattle.running.proofs.Boxes.{same_run}
use Rattle.running.proofs.Agreement.{own_script}
use Rattle.reader.specs.Bytes.{all}

-- ---- the statements of all processes

unfoldable total : ℕ → (ℕ → ℕ) → ℕ
total zero f = 0
total (suc m) f = f m + total m f

total_most : (m : ℕ) (f : ℕ → ℕ) → ((i : ℕ) → i < m → f i ≤ over) → total m f ≤ m * over
unfolding total
total_most zero f h = omega arith
total_most (suc m) f h = omega (arith, h m (omega arith), total_most m f (λ i l. h i (omega arith)))

total_same : (m : ℕ) (f g : ℕ → ℕ) → ((i : ℕ) → i < m → g i ≡ f i) → total m g ≡ total m f
unfolding total
total_same zero f g h = refl
total_same (suc m) f g h = ap₂ (λ (x y : ℕ). x + y) (h m (omega arith)) (total_same m f g (λ i l. h i (omega arith)))

-- one more of one of them
total_more : (m low : ℕ) (f g : ℕ → ℕ) → low < m → ((i : ℕ) → g i ≡ cond (eqb i low) (suc (f i)) (f i)) → total m g ≡ suc (total m f)
unfolding total
total_more zero low f g l h = absurd (omega arith)
total_more (suc m) low f g l h = elim (ℕ_discrete m low) [
  | yes e ↦
      let here : g m ≡ suc (f m) = h m ∙ rw (eq-eqb m low e) in
      let rest : total m g ≡ total m f = total_same m f g (λ i j. h i ∙ rw (ne_eqb i low (λ d. omega arith))) in
      omega (arith, here, rest)
  | no e ↦
      let here : g m ≡ f m = h m ∙ rw (ne_eqb m low e) in
      let rest : total m g ≡ suc (total m f) = total_more m low f g (omega arith) h in
      omega (arith, here, rest)
]

-- ---- drains

module _ (t : Table) (s : Script) (n : ℕ) (a : Bears t s n) where
  most : (b : calls.Box) (c : Box) (f : ℕ → ℕ) → Follows t n b c f → total process_limit f ≤ enough
  most b c f z = total_most process_limit f (λ i l. omega (arith, (z.in_step.bounded.every i l).fine.brief, a.fits.bounded))

  -- a drain of a box that is not quiet does one more
  one_more : (b : calls.Box) (c : Box) (f : ℕ → ℕ) → Follows t n b c f → (room : ℕ) → wide room ≡ true → busy c ≡ true →
      total process_limit (tally b.state (runner.called t (drain room) b).reply f) ≡ suc (total process_limit f)
  unfolding tally
  one_more b c f z room w e =
      let o = one_statement_lem s c room (ltb-true 127 room w) in
      let x = o.some e in
      let d : Deed = does c x.process x.rest x.statement in
      let r : (runner.called t (drain room) b).reply ≡ outcome d.says d.bytes =
      (answers t s n a b c f z (drain room)).reply ∙ ap (λ (y : Called). y.reply) (o.one x.before x.process x.behind x.statement x.rest x.turn)
      in
      let low = ltb-true (draining.lowest b.state.processes) (length b.state.processes) (sym (busy_lowest b.state.processes) ∙ is_busy) in
      total_more process_limit (draining.lowest b.state.processes) f _ (omega (arith, low, z.in_step.bounded.eight))
      (λ i. rw (r, (says_so c x.process x.rest x.statement).0))
    where
      is_busy : any ready b.state.processes ≡ true
      is_busy = unfold states.busy in busy_is t s n a b c f z ∙ e

  stays_quiet : (rooms : List ℕ) (c : Box) → busy c ≡ false → busy (drained_by (of_script s) c rooms) ≡ false
  unfolding drained_by
  stays_quiet [] c e = e
  stays_quiet (room ∷ rooms) c e = stays_quiet rooms (called s (drain room) c).box (ap busy (quiet_idle s c room e).box ∙ e)

  drains_quiet : (rooms : List ℕ) (b : calls.Box) (c : Box) (f : ℕ → ℕ) → Follows t n b c f → all wide rooms ≡ true → enough ≤ total process_limit f + length rooms →
      busy (drained_by (of_script s) c rooms) ≡ false
  unfolding drained_by
  drains_quiet [] b c f z w l = go (busy c) refl
    where
      go : (u : Bool) → busy c ≡ u → u ≡ false
      go false e = refl
      go true e = absurd (omega (arith, one_more b c f z 128 refl e, most _ _ _ (follows_on t s n a b c f z (drain 128))))
  drains_quiet (room ∷ rooms) b c f z w l = go (busy c) refl (drains_quiet rooms)
    where
      go : (u : Bool) → busy c ≡ u → ((b : calls.Box) (c : Box) (f : ℕ → ℕ) → Follows t n b c f → all wide rooms ≡ true → enough ≤ total process_limit f + length rooms →
          busy (drained_by (of_script s) c rooms) ≡ false) → busy (drained_by (of_script s) (called s (drain room) c).box rooms) ≡ false
      go false e ih = stays_quiet (room ∷ rooms) c e
      go true e ih =
          ih _ _ _ (follows_on t s n a b c f z (drain room)) (both_right (wide room) _ w)
          (omega (arith, one_more b c f z room (both_left (wide room) _ w) e))

  -- whatever calls came before
  fresh_follows : (b : calls.Box) (c : Box) → Follows t n (fresh t b).box (called s start c).box (fresh t b).done
  unfolding fresh next_call
  fresh_follows b c = subst (Follows t n (runner.called t start b).box (called s start c).box) (sym none_done) (start_follows t s n a b c)
    where
      none_done : tally b.state (runner.called t start b).reply (λ i. 0) ≡ (λ i. 0)
      none_done = unfold tally calls.called start_call start_event in rw a.fits.started

  calls_follow : (qs : List Call) (r : demand3.CountedRun) (c : Box) → Follows t n r.box c r.done → (c' : Box) × Follows t n (after_calls t r qs).box c' (after_calls t r qs).done
  unfolding after_calls next_call
  calls_follow [] r c z = (c, z)
  calls_follow (q ∷ qs) r c z = calls_follow qs (next_call t r q) (called s q c).box (follows_on t s n a r.box c r.done z q)

  -- ---- events in range, with so many drains after each

  module _ (rooms : List ℕ) (w : all wide rooms ≡ true) (l : enough ≤ length rooms) where
    abbrev feed : Call → Fed
    feed q = record { call = q; rooms = rooms }

    record Right (c : Box) (qs : List Call) : Type 0 where
      quiet : quietly (of_script s) c (map feed qs) ≡ true
      taken : accepted (of_script s) c (map feed qs) ≡ true

    -- a call that is taken
    feeds : (b : calls.Box) (c : Box) (f : ℕ → ℕ) (q : Call) (qs : List Call) → Follows t n (runner.called t q b).box (called s q c).box f → was_taken (called s q c).reply ≡ true →
        ((b : calls.Box) (c : Box) (f : ℕ → ℕ) → Follows t n b c f → busy c ≡ false → Right c qs) → Right c (q ∷ qs)
    unfolding quietly accepted
    feeds b c f q qs z e ih =
        let i = drains_quiet rooms _ _ f z w (omega arith) in
        let r = drained t s n a 0 rooms _ _ f z in
        let h = ih _ _ r.done r.follows i in
        record { quiet = both (not (busy (fed_with (of_script s) (feed q) c))) _ (ap not i) h.quiet; taken = both (was_taken (called s q c).reply) _ e h.taken }

    -- an event in range is taken at a quiet moment
    in_range_lem : (c : Box) (q : Call) → busy c ≡ false → in_range q ≡ true → was_taken (called s q c).reply ≡ true
    unfolding called was_taken
    in_range_lem c start i e = true_is_false (sym e)
    in_range_lem c tick i e = rw i
    in_range_lem c (byte x) i e = rw i
    in_range_lem c (reading r) i e = rw (i, e)
    in_range_lem c (level m on) i e = rw (i, e)
    in_range_lem c (ticks m) i e = true_is_false (sym e)
    in_range_lem c (bytes run m) i e = true_is_false (sym e)
    in_range_lem c (drain room) i e = true_is_false (sym e)

    all_right_lem : (es : List Call) → all in_range es ≡ true → (b : calls.Box) (c : Box) (f : ℕ → ℕ) → Follows t n b c f → busy c ≡ false → Right c es
    unfolding quietly accepted
    all_right_lem [] e b c f z i = record { quiet = refl; taken = refl }
    all_right_lem (q ∷ es) e b c f z i =
        feeds b c _ q es (follows_on t s n a b c f z q) (in_range_lem c q i (both_left (in_range q) _ e)) (all_right_lem es (both_right (in_range q) _ e))

    from_start : (b : calls.Box) (c : Box) (es : List Call) → all in_range es ≡ true → Right c (start ∷ es)
    unfolding called was_taken
    from_start b c es e = feeds b c _ start es (start_follows t s n a b c) refl (all_right_lem es e)

    their_calls : (qs : List Call) → calls_of (map feed qs) ≡ qs
    their_calls [] = refl
    their_calls (q ∷ qs) = ap (λ (l : List Call). q ∷ l) (their_calls qs)

    their_buffers : (qs : List Call) → all (λ (f : Fed). all wide f.rooms) (map feed qs) ≡ true
    their_buffers [] = refl
    their_buffers (q ∷ qs) = both (all wide rooms) _ w (their_buffers qs)

is_event_lem : (q : Call) → in_range q ≡ true → is_event q ≡ true
is_event_lem start e = e
is_event_lem tick e = refl
is_event_lem (byte x) e = refl
is_event_lem (reading r) e = refl
is_event_lem (level n on) e = refl
is_event_lem (ticks n) e = refl
is_event_lem (bytes run room) e = refl
is_event_lem (drain room) e = e

is_single_lem : (q : Call) → in_range q ≡ true → is_single q ≡ true
is_single_lem start e = refl
is_single_lem tick e = refl
is_single_lem (byte x) e = refl
is_single_lem (reading r) e = refl
is_single_lem (level n on) e = refl
is_single_lem (ticks n) e = e
is_single_lem (bytes run room) e = e
is_single_lem (drain room) e = refl

all_too : (test : Call → Bool) → ((q : Call) → in_range q ≡ true → test q ≡ true) → (es : List Call) → all in_range es ≡ true → all test es ≡ true
all_too test f [] e = refl
all_too test f (q ∷ es) e = both (test q) _ (f q (both_left (in_range q) _ e)) (all_too test f es (both_right (in_range q) _ e))

-- THE THEOREM
pub quiets : Quiets
quiets text t k c b qs rooms w l =
    let s : Script = script_of t in
    let a = own_script c in
    let x = calls_follow t s k a qs (fresh t b) (called s start (started s)).box (fresh_follows t s k a b (started s)) in
    let z = x.1 in
    busy_is t s k a _ _ _ (drained t s k a 0 rooms _ _ _ z).follows ∙ drains_quiet t s k a rooms _ _ _ z w (omega arith)

-- and every list of events in range has a run
pub has_runs : HasRuns
has_runs text t k c b es e rooms w l =
    let s : Script = script_of t in
    let a = own_script c in
    let fs : List Fed = map (λ (q : Call). record { call = q; rooms = rooms }) (start ∷ es) in
    let calls_are = their_calls t s k a rooms w l (start ∷ es) in
    let r = from_start t s k a rooms w l b (started s) es e in
    let p = same_run c 0 fs es calls_are b (started s) in
    record {
      run = record { calls = calls_are; single = all_too is_single is_single_lem es e; quiet = p.quiet ∙ r.quiet };
      events = all_too is_event is_event_lem es e;
      taken = p.taken ∙ r.taken;
      buffers = their_buffers t s k a rooms w l (start ∷ es);
    }

-- that is 32,776 drains
enough_is : enough ≡ 32776
enough_is = refl
