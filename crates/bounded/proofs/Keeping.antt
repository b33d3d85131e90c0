-- What every call keeps, what a start makes, and what a statement says. Assumes nothing.
use mathlib.Core.Path.{◌≡◌, refl, sym}
use mathlib.Core.Bool.{Bool, true, false, cond}
use mathlib.Core.List.{List, [], append-nil}
use Prim.Native.Nat.{ℕ, ◌<◌}
use native.Mathlib.Nat.{le_refl}
use native.Mathlib.Omega.{arith}
use lib.ListN.{length, get_or}
use Rattle.language.specs.declared.Table.{Table}
use Rattle.language.specs.declared.Cell.{Cell}
use Rattle.language.specs.declared.Cell.TheVariants as cell
use Rattle.language.specs.Limits.{process_limit}
use Rattle.stretch.specs.Marks.{marks_to}
use Rattle.stretch.proofs.Marking.{marks_length}
use Rattle.process.specs.declared.State.{State}
use Rattle.events.proofs.Ranges.{awake_right}
use Rattle.statement.specs.Saying.{outcome_of}
use Rattle.runner.specs.Draining.{nobody}
use Rattle.runner.specs.Starting.{start_at}
use Rattle.runner.specs.Calls.{Box, Called}
use Rattle.bounded.specs.Replies.{outcome_number, reply_number, did}
use Rattle.bounded.specs.Demand3.{tally, first_of, end_of}
use Rattle.bounded.proofs.Ahead.{opens_of, onward}
use Rattle.bounded.proofs.Held.{Held}
use Rattle.bounded.proofs.Ways.{awake_fine}
use Rattle.bounded.proofs.Accepting.{Sound}

-- the processes of a state, f being the statements that each has done since the last start or accepted event
pub record All (t : Table) (k : ℕ) (s : State) (f : ℕ → ℕ) : Type 0 where
  pub eight : length s.processes ≡ process_limit
  pub every : (i : ℕ) → i < process_limit → Held (marks_to t.cells (end_of t.heads i)) (first_of t.heads i) k (f i) (get_or s.processes i nobody)

-- what a call on a box leaves, and what it is answered
pub record Keeps (t : Table) (k : ℕ) (b : Box) (f : ℕ → ℕ) (r : Called) : Type 0 where
  pub all : All t k r.box.state (tally b.state r.reply f)
  pub found : reply_number r.reply ≡ 25 → ⊥

-- ---- a start

module _ (cells pool : List ℕ) (k first end : ℕ) (s : Sound cells pool k first end) where
  pub start_held : Held (marks_to cells end) first k 0 (start_at first end)
  unfolding opens_of onward
  start_held =
      let long = marks_length cells end s.own.inside in
      record {
        fine =
            awake_fine (marks_to cells end) first k 0 first end [] (sym long) (omega arith)
            (record { nested = s.nested; few = omega arith; low = le_refl first; high = omega (arith, s.order); kept = tt })
            (λ m. rw append-nil (s.most m));
        left = refl;
        back = refl;
        ends = sym long;
        right = awake_right first end;
      }

pub started_is : (b : Bool) (x y : ℕ) → cond b (start_at x y) (start_at 0 0) ≡ start_at (cond b x 0) (cond b y 0)
started_is true x y = refl
started_is false x y = refl

-- ---- what a statement says

pub outcome_did : (n : ℕ) (c : Cell) → (did (outcome_of n c) ≡ true) × (outcome_number (outcome_of n c) ≡ 0)
unfolding outcome_of
outcome_did n cell.Nothing = (refl, refl)
outcome_did n (cell.Send s) = (refl, refl)
outcome_did n (cell.Loop k) = (refl, refl)
outcome_did n cell.End = (refl, refl)
outcome_did n (cell.WaitTime k) = (refl, refl)
outcome_did n (cell.WaitData s) = (refl, refl)
outcome_did n (cell.WaitByte k) = (refl, refl)
outcome_did n (cell.WaitClock c) = (refl, refl)
outcome_did n (cell.WaitSignal l) = (refl, refl)
outcome_did n (cell.Rts on) = (refl, refl)
outcome_did n (cell.Log s) = (refl, refl)
outcome_did n cell.Fchange = (refl, refl)
outcome_did n cell.Pause = (refl, refl)
outcome_did n cell.Resume = (refl, refl)
outcome_did n cell.Nop = (refl, refl)
outcome_did n cell.Unknown = (refl, refl)
