-- THE PROMISES, on one page: the three demands of the mission and the requests that have landed, each proved by one citation. What each claim says stands in specs/. Assumes nothing.
use mathlib.Core.List.{List}
use Prim.Native.Nat.{ℕ}
use Rattle.language.specs.declared.Table.{Table}
use Rattle.runner.specs.Calls.{Box, Call}
use Rattle.bounded.specs.Replies.{Compiles}
use Rattle.bounded.specs.Demand3.{fresh, after_calls, Bounded}
use Rattle.bounded.proofs.Demand3.{demand_3}
use Rattle.running.specs.Agreement.{RunsScript}
use Rattle.running.proofs.Agreement.{runs_script}
use Rattle.running.specs.Neighbours.{ScriptsApart, BoxesApart, NorthsApart, Quiets, HasRuns}
use Rattle.running.proofs.Neighbours.{scripts_apart}
use Rattle.running.proofs.Boxes.{boxes_apart, norths_apart}
use Rattle.running.proofs.Quieted.{quiets, has_runs}
use Rattle.promises.specs.Demand1.{AltersNothing, NumbersDiffer}
use Rattle.promises.specs.Demand2.{Faithful}
use Rattle.promises.specs.Agrees.{Means, Whatever}
use Rattle.promises.specs.Cases.{All, cases}
use Rattle.promises.specs.Columns.{ReadersTell, ColumnsTold}
use Rattle.promises.specs.Gulps.{GulpsAreSingle}
use Rattle.promises.specs.Settled.{Shapes, Settled}
use Rattle.promises.proofs.Refusals.{alters_nothing, numbers_differ}
use Rattle.promises.proofs.Demand2.{demand_2}
use Rattle.promises.proofs.Agreeing.{means, whatever}
use Rattle.promises.proofs.Settling.{shapes, settled}
use Rattle.promises.proofs.Cases.{cases_hold}
use Rattle.promises.proofs.Columns.{readers_tell, columns_told}
use Rattle.promises.proofs.Gulps.{gulps_are_single}

-- 1. Bad input is refused by a number in document 01. A refusal hands back the state it was given and leaves each lent buffer with the bytes it had.
pub a_refusal_alters_nothing : AltersNothing
a_refusal_alters_nothing = alters_nothing

-- No two refusals have one number.
pub no_two_refusals_have_one_number : NumbersDiffer
no_two_refusals_have_one_number = numbers_differ

-- 2. Compiling and running agree with the script reference as read in document 01: whatever the box held before and whatever calls follow a start, refused
-- ones among them, the runner with the table of an accepted text answers them, byte for byte, as the text's script does.
pub what_runs_is_the_script : {text : List ℕ} {t : Table} {k : ℕ} → Compiles text t k → RunsScript text t
what_runs_is_the_script = runs_script

-- What a script does, in the words of document 01: when its waits end, how often a loop is passed, what a drain says, what is recorded and counted.
pub what_a_script_does : Means
what_a_script_does = means

-- A listing printed from a table compiles to that same table.
pub a_listing_compiles_back : {text : List ℕ} {t : Table} {k : ℕ} → Compiles text t k → Faithful t k
a_listing_compiles_back = demand_2

-- Of every table and state there can be, those that no script has too.
pub whatever_the_table : Whatever
whatever_the_table = whatever

-- 3. Take a script that was accepted, started afresh, with table and states handed on unaltered. Under every sequence of calls, refused ones among
-- them, no process leaves its own statements, holds more than 8 open loops or is answered 25; and between a start, or an accepted event, and the next
-- start or quiet moment no process does more than 4,097 statements.
pub a_run_stays_bounded : {text : List ℕ} {t : Table} {k : ℕ} → Compiles text t k → (b : Box) (qs : List Call) → Bounded t k (after_calls t (fresh t b) qs)
a_run_stays_bounded = demand_3

-- Document 02, No. 2. One call takes a run of bytes, or a number of ticks. It stops after the first that leaves a process ready, or when fewer than two places
-- remain for recorded bytes, and says how many it took; state and records equal those of single events, each accepted.
pub a_gulp_is_single_events : GulpsAreSingle
a_gulp_is_single_events = gulps_are_single

-- Document 02, No. 3. Readers of numbers, hex and clock values tell the place of the first byte they can't take.
pub readers_tell_the_place : ReadersTell
readers_tell_the_place = readers_tell

-- Every refusal of a text has its column: for 4 the first byte after which no ending, however long, makes the line right, or the line's length plus one if
-- there is none; 128 for 1, and 1 for all others; 0 for 12 and 11.
pub every_refusal_has_its_column : ColumnsTold
every_refusal_has_its_column = columns_told

-- Document 02, No. 10. Take two accepted scripts that agree in process k and differ in the others as you like. Feed both the same events, each at a quiet
-- moment, drained to quiet after it. Then what process k sends, the records it writes with their counts, and what it switches are equal, in order, for the
-- start and for each event: of the runner with the two tables, and of the scripts. The f: settings need not be equal.
pub one_north_does_not_move_the_other : BoxesApart
one_north_does_not_move_the_other = boxes_apart

pub of_scripts_too : ScriptsApart
of_scripts_too = scripts_apart

-- the request's own sentence, with all that it gives
pub as_the_request_has_it : NorthsApart
as_the_request_has_it = norths_apart

-- 8 x 4,097 drains leave no process ready, whatever calls came since the start; so every list of events whose readings and signals are in range can be fed
-- as No. 10 asks.
pub drains_come_to_quiet : Quiets
drains_come_to_quiet = quiets

pub there_are_such_runs : HasRuns
there_are_such_runs = has_runs

-- Two outcomes that meet a public function's statement are equal: of the box's functions by name, and of every shape that a statement has.
pub outcomes_are_one : Settled
outcomes_are_one = settled

pub statements_settle : Shapes
statements_settle = shapes

-- Document 01's cases marked P, in a single table.
pub the_cases_hold : All cases
the_cases_hold = cases_hold
