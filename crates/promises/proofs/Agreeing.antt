-- DEMAND 2, gathered: each meaning that a user relies on, by its own theorem. Assumes nothing.
use Rattle.running.proofs.Joins.{joins}
use Rattle.running.proofs.WaitLaws.{waits_begin, waits_end}
use Rattle.running.proofs.Waiting.{waits_through_lem}
use Rattle.running.proofs.Passes.{loops_pass}
use Rattle.running.proofs.Events.{event_taken}
use Rattle.running.proofs.Drains.{one_statement_lem}
use Rattle.running.proofs.Recording.{recorded_right}
use Rattle.running.proofs.Counting.{counts_own}
use Rattle.promises.specs.Agrees.{Means, Whatever}
use Rattle.promises.proofs.Turns as turns
use Rattle.promises.proofs.Wrote.{drain_wrote}

pub means : Means
means = record {
  joined = joins;
  begins = waits_begin;
  ends = waits_end;
  through = waits_through_lem;
  loops = loops_pass;
  taken = event_taken;
  drained = one_statement_lem;
  recorded = recorded_right;
  logged = counts_own;
}

pub whatever : Whatever
whatever = record { counts = turns.counts_always; taken = turns.taken_when_quiet; one = turns.one_statement_lem; wrote = drain_wrote }
