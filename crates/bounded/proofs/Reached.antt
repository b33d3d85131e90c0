-- Demand 3 is not empty, and its bound is no larger than it must be: a script that compiles, and calls after which a process has done one statement
-- more than the stretch that is reported. Assumes nothing.
use mathlib.Core.Path.{◌≡◌, refl, ap, ◌∙◌}
use mathlib.Core.Bool.{true}
use mathlib.Core.List.{List, [], ◌∷◌}
use Prim.Native.Nat.{ℕ}
use Rattle.reader.specs.Ascii.{ascii}
use Rattle.language.specs.declared.Table.{Table}
use Rattle.language.specs.Right.{is_byte, time_right}
use Rattle.language.specs.Cell.{coded, cell_of, decoded}
use Rattle.language.specs.Table.{cell_for, words_from, pool_of, ends_from, heads_of, laid_out}
use Rattle.language.specs.Answer.{answered, compiled}
use Rattle.language.proofs.Opened.{printed}
use Rattle.accepted.specs.Accepted.{table_right}
use Rattle.process.specs.Waiting.{awake}
use Rattle.statement.specs.Moving.{rests_unless, moved_by, moved}
use Rattle.statement.specs.Saying.{outcome_of}
use Rattle.runner.specs.Draining.{lowest, drained, state_after}
use Rattle.runner.specs.Starting.{started, started_from, start_state, no_counts, start_event, start_counts}
use Rattle.runner.specs.Calls as calls
use Rattle.runner.specs.Calls.{Box, Call, drain, boxed, start_call}
use Rattle.bounded.specs.Replies.{Compiles}
use Rattle.bounded.specs.Demand3.{tally, CountedRun, next_call, after_calls, fresh}
use Rattle.bounded.proofs.Accepting.{fitting}

-- NOP and a rest: the stretch is 1
text : List ℕ
text = ascii "#NOP\n#WAIT TIME\n"

table : Table
table = (compiled text).table

compiles : Compiles text table 1
unfolding text table compiled printed is_byte answered
compiles = record { bytes = refl; result = refl }

-- where a start is taken
fresh_is : (t : Table) (b : Box) → table_right t ≡ true → fresh t b ≡ record { box = boxed (start_state t.heads) no_counts; done = λ i. 0 }
unfolding fresh next_call tally calls.called start_call start_event start_counts
fresh_is t b e = rw e

abbrev two : List Call
two = drain 128 ∷ drain 128 ∷ []

-- both are done, and the process rests
reached : (b : Box) → (after_calls table (fresh table b) two).done 0 ≡ 2
unfolding text table compiled printed answered laid_out heads_of words_from pool_of ends_from cell_for coded decoded cell_of time_right after_calls next_call tally calls.called start_state started_from started awake drained lowest moved moved_by rests_unless outcome_of state_after
reached b = ap (λ (r : CountedRun). (after_calls table r two).done 0) (fresh_is table b (fitting compiles).started) ∙ refl
