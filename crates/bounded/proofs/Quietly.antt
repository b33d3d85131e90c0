-- A drain is answered quiet exactly when no process is ready and its buffer has room. Assumes nothing.
use mathlib.Core.Path.{◌≡◌, refl, sym, ap, ◌∙◌}
use mathlib.Core.Bool.{Bool, true, false, cond}
use mathlib.Core.List.{[]}
use Prim.Native.Nat.{ℕ}
use lib.Dec.{ltb}
use lib.ListN.{length}
use borrow.Author.Tests.{ltb-true, lt-ltb}
use Rattle.reader.proofs.Tests.{true_is_false}
use Rattle.language.specs.declared.Table.{Table}
use Rattle.language.specs.Limits.{process_limit}
use Rattle.process.specs.declared.State.{State}
use Rattle.process.specs.declared.RunRefusal.TheVariants.{SmallBuffer, BadTable}
use Rattle.statement.specs.declared.outcome.Outcome.TheVariants.{Quiet, Refused}
use Rattle.runner.specs.declared.Drained.{Drained}
use Rattle.process.specs.State.{busy}
use Rattle.statement.specs.Moving.{moved, cell_at}
use Rattle.runner.specs.Draining.{lowest, turn_of, does, writes, unaltered, drained}
use Rattle.runner.specs.Calls as calls
use Rattle.runner.specs.Calls.{Box, drain, outcome}
use Rattle.bounded.specs.Replies.{called, did}
use Rattle.bounded.specs.Demand3.{QuietExactly}
use Rattle.bounded.proofs.Several.{busy_lowest}
use Rattle.bounded.proofs.Keeping.{outcome_did}

-- what the three tests of a drain decide, where a statement says anything but quiet
quiet_only : (one found room : Bool) (s : State) (d : Drained) → did d.outcome ≡ true →
    (cond one (cond found (cond room d (unaltered s (Refused SmallBuffer))) (unaltered s (Refused BadTable)))
    (cond room (unaltered s Quiet) (unaltered s (Refused SmallBuffer)))).outcome ≡ Quiet →
    (one ≡ false) × (room ≡ true)
quiet_only true true true s d e q = true_is_false (sym e ∙ ap did q)
quiet_only true true false s d e q = true_is_false (cc)
quiet_only true false room s d e q = true_is_false (cc)
quiet_only false found true s d e q = (refl, refl)
quiet_only false found false s d e q = true_is_false (cc)

module _ (t : Table) (b : Box) (eight : length b.state.processes ≡ process_limit) (room : ℕ) where
  -- some process is ready just when the drain finds one
  one_ready : busy b.state ≡ ltb (lowest b.state.processes) process_limit
  unfolding busy
  one_ready = busy_lowest b.state.processes ∙ ap (ltb (lowest b.state.processes)) eight

  said : (called t (drain room) b).reply ≡ outcome Quiet [] → (drained t.cells t.pool b.state b.counts room).outcome ≡ Quiet
  unfolding calls.called
  said e = cc

  pub quiet_exactly : QuietExactly t b room
  unfolding calls.called drained does
  quiet_exactly = record {
    only = λ e.
        let n : ℕ = length (writes t.cells t.pool b.state b.counts) in
        let q = quiet_only (ltb (lowest b.state.processes) process_limit) (moved t.cells b.state.levels (turn_of b.state)).found (ltb 127 room) b.state _
        (outcome_did n (cell_at t.cells (turn_of b.state))).0 (said e)
        in
        (one_ready ∙ q.0, ltb-true 127 room q.1);
    always = λ e l. rw (sym one_ready ∙ e, lt-ltb 127 room l);
  }
