-- Through any calls a process that is not ready has its wait changed by the events that are taken, and by nothing else. Assumes nothing.
use mathlib.Core.Path.{◌≡◌, refl, sym, ap, ◌∙◌}
use mathlib.Core.Bool.{Bool, true, false, cond, ◌&&◌}
use mathlib.Core.List.{List, [], ◌∷◌, ◌++◌, map}
use Prim.Native.Nat.{ℕ, zero, suc}
use Rattle.reader.proofs.Tests.{true_is_false}
use Rattle.language.specs.Script.{Script}
use Rattle.process.specs.State.{any}
use Rattle.runner.specs.Calls.{Call, start, tick, byte, reading, level, ticks, bytes, drain}
use Rattle.bounded.specs.Replies.{was_taken, is_event}
use Rattle.running.specs.Running.{Wait, for_nothing, Process, Box, ready, waiting, called}
use Rattle.running.specs.Waits.{since}
use Rattle.running.specs.Called.{process, box_after, is_start, singles, taken_in, waits_on, WaitsThrough}
use Rattle.running.proofs.DataWaits.{stays_over}
use Rattle.running.proofs.Events.{event_taken}
use Rattle.running.proofs.Drains.{neither, of, drain_leaves}

-- process k of the processes that an event acts on
pub acts_on : (f : Wait → Wait) → f for_nothing ≡ for_nothing → (ps : List Process) (k : ℕ) → of k (map (waiting f) ps) ≡ waiting f (of k ps)
acts_on f e [] k = rw e
acts_on f e (p ∷ ps) zero = refl
acts_on f e (p ∷ ps) (suc k) = acts_on f e ps k

-- some events, and then others
since_append : (es fs : List Call) (w : Wait) → since (es ++ fs) w ≡ since fs (since es w)
unfolding since
since_append [] fs w = refl
since_append (e ∷ es) fs w = since_append es fs _

module _ (s : Script) (b : Box) (k : ℕ) (q : Call) where
  abbrev taken : Bool
  taken = was_taken (called s q b).reply

  abbrev after : Process
  after = process k (called s q b).box

  -- what the call does to the wait
  abbrev Acts : Bool → Type 0
  Acts u = after ≡ waiting (λ w. cond u (since (singles q (called s q b).reply) w) w) (process k b)

  event_acts : is_event q ≡ true → Acts taken
  event_acts e = go taken refl
    where
      go : (u : Bool) → was_taken (called s q b).reply ≡ u → Acts u
      go true t = ap (of k) ((event_taken s b q e).acts t) ∙ acts_on _ (stays_over (singles q (called s q b).reply)) b.processes k
      go false t = ap (process k) ((event_taken s b q e).unaltered t)

  call_acts : is_start q ≡ false → ready (process k b) ≡ false → Acts (is_event q && taken)
  call_acts n h = go q refl n
    where
      go : (c : Call) → q ≡ c → is_start c ≡ false → Acts (is_event c && taken)
      go start e m = true_is_false m
      go tick e m = event_acts (rw e)
      go (byte x) e m = event_acts (rw e)
      go (reading r) e m = event_acts (rw e)
      go (level i is) e m = event_acts (rw e)
      go (ticks n) e m = event_acts (rw e)
      go (bytes run room) e m = event_acts (rw e)
      go (drain room) e m = rw e (drain_leaves s b room k h)

goes_through : (s : Script) (k : ℕ) (qs : List Call) (b : Box) → any is_start qs ≡ false → waits_on s k b qs ≡ true →
    process k (box_after s b qs) ≡ waiting (since (taken_in s b qs)) (process k b)
unfolding box_after taken_in waits_on since
goes_through s k [] b n w = refl
goes_through s k (q ∷ qs) b n w =
    let d = neither (is_start q) (any is_start qs) n in
    go (ready (process k b)) refl w (is_event q && was_taken (called s q b).reply) (λ h. call_acts s b k q d.0 h) (goes_through s k qs (called s q b).box d.1)
  where
    go : (r : Bool) → ready (process k b) ≡ r → cond r false (waits_on s k (called s q b).box qs) ≡ true → (u : Bool) →
        (ready (process k b) ≡ false → process k (called s q b).box ≡ waiting (λ x. cond u (since (singles q (called s q b).reply) x) x) (process k b)) →
        (waits_on s k (called s q b).box qs ≡ true →
        process k (box_after s (called s q b).box qs) ≡ waiting (since (taken_in s (called s q b).box qs)) (process k (called s q b).box)) →
        process k (box_after s (called s q b).box qs) ≡ waiting (since (cond u (singles q (called s q b).reply ++ taken_in s (called s q b).box qs) (taken_in s (called s q b).box qs))) (process k b)
    go true e v u f g = true_is_false (sym v)
    go false e v true f g =
        g v ∙ ap (waiting (since (taken_in s (called s q b).box qs))) (f e)
        ∙ ap (λ (w : Wait). waiting (λ x. w) (process k b)) (sym (since_append (singles q (called s q b).reply) (taken_in s (called s q b).box qs) (process k b).wait))
    go false e v false f g = g v ∙ ap (waiting (since (taken_in s (called s q b).box qs))) (f e)

-- THE THEOREM
pub waits_through_lem : (s : Script) (b : Box) (k : ℕ) (qs : List Call) → WaitsThrough s b k qs
waits_through_lem s b k qs = record { through = λ n w. goes_through s k qs b n w }
