-- A start and a drain on damaged tables and states: "start, lister: no accepted script has this table" 25; "25, then 24". Assumes nothing.
use Prim.Native.Nat.{ℕ}
use mathlib.Core.Path.{◌≡◌, refl}
use mathlib.Core.Bool.{false}
use mathlib.Core.List.{List, [], ◌∷◌}
use lib.ListN.{replicate}
use Rattle.std.specs.Prelude.{Err}
use Rattle.language.specs.Table.{zero_table}
use Rattle.language.specs.Cell as cell
use Rattle.accepted.specs.Accepted.{table_right}
use Rattle.accepted.proofs.Examples.{zeros_unaccepted}
use Rattle.process.specs.declared.Wait.{Wait}
use Rattle.process.specs.declared.Wait.TheVariants.{Ready, Over, Ticks}
use Rattle.process.specs.declared.Process.{Process}
use Rattle.process.specs.declared.State.{State}
use Rattle.process.specs.declared.RunRefusal.TheVariants.{BadTable}
use Rattle.process.specs.State.{run_refusal_number}
use Rattle.process.specs.Waiting as waiting
use Rattle.statement.specs.declared.outcome.Outcome.{Outcome}
use Rattle.statement.specs.declared.outcome.Outcome.TheVariants as outcome
use Rattle.statement.specs.Moving as moving
use Rattle.statement.specs.Saying as saying
use Rattle.record.specs.Logging as logging
use Rattle.writer.specs.Put as put
use Rattle.runner.specs.Writing as writing
use Rattle.runner.specs.Starting.{start_event, start_counts}
use Rattle.runner.specs.Draining.{lowest, does, writes, state_after, drained, counts_after}
use Rattle.runner.specs.Calls.{Box, start, event, start_call, called}

-- ---- a start on the table of zeros: 25, and the box is handed back as it was

pub zeros_are_refused : (b : Box) → called table_right zero_table start b ≡ record { box = b; reply = event (Err BadTable) }
unfolding called start_call start_event start_counts
zeros_are_refused b = rw zeros_unaccepted

that_is_25 : run_refusal_number BadTable ≡ 25
unfolding run_refusal_number
that_is_25 = refl

-- ---- a drain

-- the number that a drain is refused by; 0 where it is not
abbrev number_of : Outcome → ℕ
number_of outcome.Quiet = 0
number_of (outcome.Sent n) = 0
number_of (outcome.Recorded n) = 0
number_of (outcome.Rts s) = 0
number_of outcome.Fchange = 0
number_of outcome.Pause = 0
number_of outcome.Resume = 0
number_of outcome.Plain = 0
number_of (outcome.Refused r) = run_refusal_number r

-- two processes at the first cell, each with a wait, and six that are over
abbrev two : Wait → Wait → State
two v w =
    let p : Wait → Process = λ x. record { place = 0; end = 1; depth = 0; left = replicate 8 0; back = replicate 8 0; wait = x } in
    record {
      processes = p v ∷ p w ∷ replicate 6 (p Over);
      reading = record { year = 0; month = 1; day = 1; hour = 0; minute = 0; second = 0 };
      levels = replicate 5 false;
      paused = false;
    }

-- the first word, the two waits, the bytes of the buffer, and the number
abbrev Drains : List (ℕ × (Wait × (Wait × (ℕ × ℕ)))) → Type 0
Drains [] = Unit {0}
Drains (c ∷ cs) =
    (number_of (drained (c.0 ∷ []) (replicate 1024 0) (two c.1.0 c.1.1.0) (0 ∷ []) c.1.1.1.0).outcome ≡ c.1.1.1.1) × Drains cs

abbrev cases : List (ℕ × (Wait × (Wait × (ℕ × ℕ))))
cases =
    -- `#NOP`; "drain buffer under 128 bytes"
    (939524096, (Ready, (Over, (128, 0))))
    ∷ (939524096, (Ready, (Over, (127, 24))))
    ∷ (939524096, (Over, (Ready, (128, 0))))
    ∷ (939524096, (Over, (Ready, (127, 24))))
    -- no statement: "25, then 24", for the process whose turn it is alone
    ∷ (0, (Ready, (Over, (128, 25))))
    ∷ (0, (Ready, (Over, (127, 25))))
    ∷ (0, (Over, (Ready, (0, 25))))
    -- "a quiet drain with a small buffer is 24"; what no call must use is not tested
    ∷ (0, (Over, (Over, (128, 0))))
    ∷ (0, (Over, (Ticks 1, (127, 24))))
    ∷ (0, (Ticks 1, (Over, (0, 24))))
    ∷ []

cases_hold : Drains cases
unfolding drained lowest state_after writes run_refusal_number writing.writes_for waiting.awake moving.moved moving.moved_by saying.outcome_of saying.paused_by cell.cell_of cell.decoded
cases_hold = (refl, (refl, (refl, (refl, (refl, (refl, (refl, (refl, (refl, (refl, tt))))))))))

-- ---- the counts of LOG statements are lent: "4294967295 is followed by 0", and the record shows the count before it

-- `#LOG @c` in the first cell
abbrev log : ℕ
log = 671088642

abbrev at_c : List ℕ
at_c = 64 ∷ 99 ∷ replicate 1022 0

-- the count before a record, what is written, and the count after
abbrev Logs : List (ℕ × (List ℕ × ℕ)) → Type 0
Logs [] = Unit {0}
Logs (c ∷ cs) =
    ((writes (log ∷ []) at_c (two Ready Over) (c.0 ∷ []) ≡ c.1.0) × (counts_after (log ∷ []) (two Ready Over) (c.0 ∷ []) 128 ≡ c.1.1 ∷ [])) × Logs cs

abbrev logs : List (ℕ × (List ℕ × ℕ))
logs =
    (0, (48 ∷ [], 1))
    ∷ (65535, (54 ∷ 53 ∷ 53 ∷ 51 ∷ 53 ∷ [], 65536))
    ∷ (65536, (54 ∷ 53 ∷ 53 ∷ 51 ∷ 54 ∷ [], 65537))
    ∷ (4294967295, (52 ∷ 50 ∷ 57 ∷ 52 ∷ 57 ∷ 54 ∷ 55 ∷ 50 ∷ 57 ∷ 53 ∷ [], 0))
    ∷ []

logs_hold : Logs logs
unfolding does lowest writes counts_after writing.writes_for waiting.awake moving.moved moving.moved_by saying.counted_by logging.next_count logging.record_of logging.written_out logging.sign_text put.decimal put.width_of put.width_go put.fixed cell.span_right cell.cell_of cell.decoded
logs_hold = ((refl, refl), ((refl, refl), ((refl, refl), ((refl, refl), tt))))
