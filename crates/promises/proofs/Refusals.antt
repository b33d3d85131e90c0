-- DEMAND 1, gathered: a refusal of the compiler, of the lister and of the runner alters nothing. Assumes nothing.
use mathlib.Core.Path.{◌≡◌, refl}
use mathlib.Core.Bool.{Bool, true, false, cond}
use mathlib.Core.List.{List}
use Prim.Native.Nat.{ℕ, ◌+◌, ◌≤◌}
use native.Mathlib.Omega.{arith}
use lib.Dec.{leb}
use lib.ListN.{length}
use lib.Seq.{sets}
use Rattle.reader.proofs.Tests.{true_is_false}
use Rattle.std.specs.Prelude as std
use Rattle.std.specs.Prelude.{Some, None, Ok, Err}
use Rattle.hex_data.specs.declared.HexFault.{HexFault}
use Rattle.hex_data.specs.declared.HexFault.TheVariants.{Full, Wrong}
use Rattle.hex_data.specs.Hex.{Said, hex_into, hex_put, good, bad}
use Rattle.writer.specs.Put.{put_answer, put_into}
use Rattle.language.specs.declared.Table.{Table}
use Rattle.language.specs.declared.TextFault.{TextFault}
use Rattle.language.specs.declared.TextFault.TheVariants as fault
use Rattle.language.specs.Draft.{Result, accepted, refused}
use Rattle.language.specs.Table.{zero_table}
use Rattle.language.specs.Answer as texts
use Rattle.language.specs.Answer.{refusal_of, answered, script_from, compiled}
use Rattle.record.specs.Logging.{record_of, record_answer, record_into}
use Rattle.accepted.specs.Accepted.{table_right}
use Rattle.lister.specs.declared.ListRefusal as refusals
use Rattle.lister.specs.declared.ListRefusal.TheVariants as wrong
use Rattle.lister.specs.Listed as tables
use Rattle.lister.specs.Listed.{listing_of, list_answer, list_into}
use Rattle.language.proofs.Numbers.{fault_numbers_differ}
use Rattle.process.proofs.Numbers.{run_numbers_differ}
use Rattle.lister.proofs.Numbers.{list_numbers_differ}
use Rattle.promises.specs.Demand1.{RefusesText, RefusesTable, WritesAllOrNothing, AltersNothing, NumbersDiffer}
use Rattle.promises.proofs.Demand1.{demand_1, demand_1_lent}

-- ---- the compiler

text_numbered : (f : TextFault) → (1 ≤ texts.fault_number f) × (texts.fault_number f ≤ 12)
unfolding texts.fault_number
text_numbered fault.TextTooLong = (omega arith, omega arith)
text_numbered fault.LineTooLong = (omega arith, omega arith)
text_numbered fault.TooManyLines = (omega arith, omega arith)
text_numbered fault.NoSuchName = (omega arith, omega arith)
text_numbered fault.BadRest = (omega arith, omega arith)
text_numbered fault.TooMuchData = (omega arith, omega arith)
text_numbered fault.TooManyOmits = (omega arith, omega arith)
text_numbered fault.TooManyLoops = (omega arith, omega arith)
text_numbered fault.EndWithoutLoop = (omega arith, omega arith)
text_numbered fault.LoopLeftOpen = (omega arith, omega arith)
text_numbered fault.TooManyProcesses = (omega arith, omega arith)
text_numbered fault.StretchTooLong = (omega arith, omega arith)

zeroed : (r : Result) (f : TextFault) (row column : ℕ) → (answered r).answer ≡ Err (refusal_of f row column) → (answered r).table ≡ zero_table
unfolding answered
zeroed (accepted s) f row column e = true_is_false (cc)
zeroed (refused g n k) f row column e = refl

refuses_text : (text : List ℕ) → RefusesText text
unfolding compiled
refuses_text text = record { numbered = text_numbered; zeroed = zeroed (script_from text) }

-- ---- the lister

table_numbered : (w : refusals.ListRefusal) → (25 ≤ tables.list_refusal_number w) × (tables.list_refusal_number w ≤ 26)
unfolding tables.list_refusal_number
table_numbered wrong.BadTable = (omega arith, omega arith)
table_numbered wrong.NoRoom = (omega arith, omega arith)

unaltered_by : (right room : Bool) (n : ℕ) (w : refusals.ListRefusal) (out written : List ℕ) →
    cond {A = std.Result ℕ refusals.ListRefusal} right (cond room (Ok n) (Err wrong.NoRoom)) (Err wrong.BadTable) ≡ Err w → cond right (cond room written out) out ≡ out
unaltered_by true true n w out written e = true_is_false (cc)
unaltered_by true false n w out written e = refl
unaltered_by false room n w out written e = refl

refuses_table : (t : Table) (out : List ℕ) → RefusesTable t out
unfolding list_answer list_into
refuses_table t out = record {
  numbered = table_numbered;
  unaltered = λ w e. unaltered_by (table_right t) (leb (length (listing_of t)) (length out)) (length (listing_of t)) w out (sets out 0 (listing_of t)) e;
}

-- ---- the writers

kept_by : (room : Bool) (n : ℕ) (d written : List ℕ) → cond {A = std.Option ℕ} room (Some n) None ≡ None → cond room written d ≡ d
kept_by true n d written e = true_is_false (cc)
kept_by false n d written e = refl

full_kept : (d : List ℕ) (s : Said) (to : ℕ) → hex_into s d to ≡ Err Full → hex_put s d to ≡ d
unfolding hex_into hex_put
full_kept d (bad at) to e = refl
full_kept d (good bs) to e = go (leb (to + length bs) (length d)) e
  where
    go : (room : Bool) → cond {A = std.Result ℕ HexFault} room (Ok (length bs)) (Err Full) ≡ Err Full → cond room (sets d to bs) d ≡ d
    go true q = true_is_false (cc)
    go false q = refl

wrong_kept : (d : List ℕ) (s : Said) (to at : ℕ) → hex_into s d to ≡ Err (Wrong at) → hex_put s d to ≡ d
unfolding hex_into hex_put
wrong_kept d (bad x) to at e = refl
wrong_kept d (good bs) to at e = go (leb (to + length bs) (length d)) e
  where
    go : (room : Bool) → cond {A = std.Result ℕ HexFault} room (Ok (length bs)) (Err Full) ≡ Err (Wrong at) → cond room (sets d to bs) d ≡ d
    go true q = true_is_false (cc)
    go false q = refl

writes_all_or_nothing : (d : List ℕ) → WritesAllOrNothing d
unfolding put_answer put_into record_answer record_into
writes_all_or_nothing d = record {
  put = λ bs at e. kept_by (leb (at + length bs) (length d)) (at + length bs) d (sets d at bs) e;
  hex_full = full_kept d;
  hex_wrong = wrong_kept d;
  log = λ r count text e. kept_by (leb 127 (length d)) (length (record_of r count text)) d (sets d 0 (record_of r count text)) e;
}

pub alters_nothing : AltersNothing
alters_nothing = record { writers = writes_all_or_nothing; compiler = refuses_text; lister = refuses_table; runner = demand_1; lent = demand_1_lent }

-- ---- the numbers

pub numbers_differ : NumbersDiffer
numbers_differ = record { runner = run_numbers_differ; texts = fault_numbers_differ; lister = list_numbers_differ }
