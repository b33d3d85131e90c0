-- Run for run, what the runner says of process k is read off what the script says of it. Assumes nothing.
use mathlib.Core.Path.{◌≡◌, refl, ap, ap₂}
use mathlib.Core.Bool.{Bool, not, ◌&&◌}
use mathlib.Core.List.{List, [], ◌∷◌, ◌++◌, map}
use Prim.Native.Nat.{ℕ}
use native.Mathlib.Omega.{arith}
use lib.ListN.{length, get_or}
use Rattle.language.specs.declared.Table.{Table}
use Rattle.language.specs.Script.{Statement, Script, processes}
use Rattle.runner.specs.Calls as calls
use Rattle.runner.specs.Calls.{Call, start, drain, Reply}
use Rattle.bounded.specs.Replies as runner
use Rattle.bounded.specs.Replies.{was_taken}
use Rattle.running.specs.Running as script
use Rattle.running.specs.Running.{Box, called}
use Rattle.running.specs.Neighbours.{Fed, calls_of, Part, drained_by, fed_with, quietly, accepted, says, parts, of_script, of_table}
use Rattle.running.proofs.Starts.{Bears}
use Rattle.running.proofs.EventsAgree.{start_answers}
use Rattle.running.proofs.Counts.{counts_by}
use Rattle.running.proofs.Following.{Follows, start_follows, answers, follows_on, busy_is, says_in_lem, kept_is}

-- what is compared of process k: the counts of its statements ss
abbrev pub tabled : List Statement → Part script.Process → Part (List ℕ)
tabled ss p = record { replies = p.replies; kept = counts_by p.kept.counts ss }

module _ (t : Table) (s : Script) (n : ℕ) (a : Bears t s n) where
  -- ---- some drains

  pub record Drained (k : ℕ) (b : calls.Box) (c : Box) (rooms : List ℕ) : Type 0 where
    pub done : ℕ → ℕ
    pub follows : Follows t n (drained_by (of_table t) b rooms) (drained_by (of_script s) c rooms) done
    pub said : says (of_table t) k b rooms ≡ says (of_script s) k c rooms

  pub drained : (k : ℕ) (rooms : List ℕ) (b : calls.Box) (c : Box) (f : ℕ → ℕ) → Follows t n b c f → Drained k b c rooms
  unfolding drained_by says
  drained k [] b c f z = record { done = f; follows = z; said = refl }
  drained k (room ∷ rooms) b c f z =
      let d = drained k rooms (runner.called t (drain room) b).box (called s (drain room) c).box _ (follows_on t s n a b c f z (drain room)) in
      record { done = d.done; follows = d.follows; said = ap₂ (λ (l m : List Reply). l ++ m) (says_in_lem t s n a b c f z k room) d.said }

  -- ---- whole runs

  pub record Sames (k : ℕ) (b : calls.Box) (c : Box) (fs : List Fed) : Type 0 where
    pub quiet : quietly (of_table t) b fs ≡ quietly (of_script s) c fs
    pub taken : accepted (of_table t) b fs ≡ accepted (of_script s) c fs
    pub compared : parts (of_table t) k b fs ≡ map (tabled (get_or (processes s.body) k [])) (parts (of_script s) k c fs)

  -- a call that leaves them so, the drains after it, and then the rest
  fed_sames : (k : ℕ) (b : calls.Box) (c : Box) (f : Fed) (fs : List Fed) (g : ℕ → ℕ) → Follows t n (runner.called t f.call b).box (called s f.call c).box g →
      (runner.called t f.call b).reply ≡ (called s f.call c).reply →
      ((h : ℕ → ℕ) → Follows t n (fed_with (of_table t) f b) (fed_with (of_script s) f c) h → Sames k (fed_with (of_table t) f b) (fed_with (of_script s) f c) fs) → Sames k b c (f ∷ fs)
  unfolding quietly accepted parts
  fed_sames k b c f fs g z e rest =
      let d = drained k f.rooms (runner.called t f.call b).box (called s f.call c).box g z in
      let r = rest d.done d.follows in
      record {
        quiet = ap₂ (λ (u v : Bool). not u && v) (busy_is t s n a _ _ _ d.follows) r.quiet;
        taken = ap₂ (λ (u v : Bool). u && v) (ap was_taken e) r.taken;
        compared =
            ap₂ (λ (p : Part (List ℕ)) (ps : List (Part (List ℕ))). p ∷ ps)
            (ap₂ (λ (l : List Reply) (m : List ℕ). record { replies = l; kept = m }) d.said (kept_is t s n a _ _ _ d.follows k)) r.compared;
      }

  runs_sames : (k : ℕ) (fs : List Fed) (b : calls.Box) (c : Box) (g : ℕ → ℕ) → Follows t n b c g → Sames k b c fs
  unfolding quietly accepted parts
  runs_sames k [] b c g z = record { quiet = refl; taken = refl; compared = refl }
  runs_sames k (f ∷ fs) b c g z =
      fed_sames k b c f fs _ (follows_on t s n a b c g z f.call) (answers t s n a b c g z f.call).reply
      (λ h y. runs_sames k fs (fed_with (of_table t) f b) (fed_with (of_script s) f c) h y)

  -- from a start
  pub started_sames : (k : ℕ) (fs : List Fed) (es : List Call) → calls_of fs ≡ start ∷ es → (b : calls.Box) (c : Box) → Sames k b c fs
  started_sames k [] es e b c = absurd (omega (arith, ap (λ (l : List Call). length l) e))
  started_sames k (f ∷ fs) es e b c =
      let first : f.call ≡ start = cc in
      fed_sames k b c f fs (λ i. 0) (rw first (start_follows t s n a b c)) (rw first (start_answers t s n a b c).reply)
      (λ h y. runs_sames k fs (fed_with (of_table t) f b) (fed_with (of_script s) f c) h y)
