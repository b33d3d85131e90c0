-- No. 10 is not empty: two scripts that agree in their second process alone. The first process of the one pauses recording and logs, that of the other
-- sends in a loop. Both are fed a byte and a tick, with other drains, and what the second process says is given in full. Assumes nothing.
use mathlib.Core.Path.{◌≡◌, refl, ◌∙◌}
use mathlib.Core.Bool.{true}
use mathlib.Core.List.{List, [], ◌∷◌, map}
use Prim.Native.Nat.{ℕ}
use native.Mathlib.Omega.{arith}
use lib.ListN.{get_or}
use Rattle.std.specs.Prelude.{Ok}
use Rattle.reader.specs.Ascii.{ascii}
use Rattle.language.specs.declared.Table.{Table}
use Rattle.language.specs.Right.{is_byte, time_right}
use Rattle.language.specs.Cell as cell
use Rattle.language.specs.Script.{processes, in_first}
use Rattle.language.specs.Table as table
use Rattle.language.specs.Table.{script_of, settings_of}
use Rattle.language.specs.Answer.{answered, compiled}
use Rattle.language.proofs.Opened.{printed}
use Rattle.events.specs.Recording as recording
use Rattle.record.specs.Logging as logging
use Rattle.runner.specs.Calls.{Box, Call, start, tick, byte, received}
use Rattle.bounded.specs.Replies.{Compiles, was_taken, plain, sent, recorded}
use Rattle.running.specs.Joined as joined
use Rattle.running.specs.Running as script
use Rattle.running.specs.Neighbours as runs
use Rattle.running.specs.Neighbours.{Fed, calls_of, Part, fed_with, quietly, accepted, parts, of_script, of_table, AsAsked, Neighbours}
use Rattle.running.proofs.Counts.{counts_by}
use Rattle.running.proofs.SameRuns.{tabled}
use Rattle.running.proofs.Boxes.{same_run, norths_apart}
use Rattle.language.specs.Limits.{wide}
use Rattle.reader.specs.Bytes.{all}

-- ---- the two scripts

-- the lines after `#PROCESS` are the same
one_text : List ℕ
one_text = ascii "#PAUSE\n#LOG a\n#PROCESS\n#WAIT BYTE\n#LOG @c\n#WAIT TIME 1MS\n/B\n"

other_text : List ℕ
other_text = ascii "#LOOP 2\n/C\n#END\n#PROCESS\n#WAIT BYTE\n#LOG @c\n#WAIT TIME 1MS\n/B\n"

one : Table
one = (compiled one_text).table

other : Table
other = (compiled other_text).table

one_compiles : Compiles one_text one 2
unfolding one_text one compiled printed is_byte answered
one_compiles = record { bytes = refl; result = refl }

other_compiles : Compiles other_text other 5
unfolding other_text other compiled printed is_byte answered
other_compiles = record { bytes = refl; result = refl }

-- they agree in process 1, the second
neighbours : Neighbours one other 1
unfolding one_text one other_text other compiled printed answered table.laid_out table.heads_of table.words_from table.pool_of table.ends_from table.cell_for cell.coded cell.decoded cell.cell_of time_right script_of settings_of table.items_of table.body_from table.statement_of table.letters_of cell.span_number cell.span_right processes in_first
neighbours = record { settings = refl; has = omega arith; has_too = omega arith; agree = refl }

-- ---- the two runs

abbrev fed : Call → List ℕ → Fed
fed q rooms = record { call = q; rooms = rooms }

abbrev events : List Call
events = byte 65 ∷ tick ∷ []

-- the first processes take two drains here and five there; some drains are quiet
one_run : List Fed
one_run = fed start (128 ∷ 128 ∷ 128 ∷ []) ∷ fed (byte 65) (128 ∷ 128 ∷ 128 ∷ []) ∷ fed tick (128 ∷ []) ∷ []

other_run : List Fed
other_run = fed start (128 ∷ 129 ∷ 130 ∷ 131 ∷ 132 ∷ 133 ∷ 134 ∷ []) ∷ fed (byte 65) (200 ∷ 200 ∷ []) ∷ fed tick (512 ∷ 512 ∷ []) ∷ []

-- what process 1 says after the start, after the byte and after the tick, and the counts of its four statements then
told : List (Part (List ℕ))
told =
    record { replies = plain ∷ []; kept = 0 ∷ 0 ∷ 0 ∷ 0 ∷ [] }
    ∷ record { replies = recorded (ascii "0") ∷ plain ∷ []; kept = 0 ∷ 1 ∷ 0 ∷ 0 ∷ [] }
    ∷ record { replies = sent (ascii "B") ∷ []; kept = 0 ∷ 1 ∷ 0 ∷ 0 ∷ [] }
    ∷ []

-- ---- computed of the scripts

-- copies being how often the byte is recorded
record Computed (t : Table) (fs : List Fed) (copies : ℕ) : Type 0 where
  calls : calls_of fs ≡ start ∷ events
  buffers : all (λ (f : Fed). all wide f.rooms) fs ≡ true
  quiet : (y : script.Box) → quietly (of_script (script_of t)) y fs ≡ true
  taken : (y : script.Box) → accepted (of_script (script_of t)) y fs ≡ true
  says : (y : script.Box) → map (tabled (get_or (processes (script_of t).body) 1 [])) (parts (of_script (script_of t)) 1 y fs) ≡ told
  recorded : (y : script.Box) → (script.called (script_of t) (byte 65) (fed_with (of_script (script_of t)) (get_or fs 0 (fed start [])) y)).reply ≡ received (Ok (record { count = copies }))

-- paused in the one, and not in the other: that is no part of what is equal
computed : Computed one one_run 0 × Computed other other_run 1
unfolding one_text one other_text other one_run other_run told compiled printed answered table.laid_out table.heads_of table.words_from table.pool_of table.ends_from table.cell_for cell.coded cell.decoded cell.cell_of time_right script_of settings_of table.items_of table.body_from table.statement_of table.letters_of cell.span_number cell.span_right processes in_first joined.joined_in joined.join_to joined.join_two joined.awaits joined.done script.next_in script.next_by script.is_statement script.busy script.ticked script.gets script.unless_zero script.closed script.logged script.does script.later script.takes script.turn script.drained script.times_by script.times_recorded script.started script.called recording.one_of logging.sign_text logging.written_out logging.record_of logging.next_count was_taken runs.drained_by runs.quietly runs.accepted runs.says_in runs.says runs.parts runs.lowest counts_by
computed = (
  record { calls = refl; buffers = refl; quiet = λ y. refl; taken = λ y. refl; says = λ y. refl; recorded = λ y. refl },
  record { calls = refl; buffers = refl; quiet = λ y. refl; taken = λ y. refl; says = λ y. refl; recorded = λ y. refl },
)

-- ---- had of the runner

-- all that document 02 gives, and what process 1 says
record Shown (t : Table) (b : Box) (fs : List Fed) : Type 0 where
  asked : AsAsked (of_table t) b events fs
  says : parts (of_table t) 1 b fs ≡ told

shown : {text : List ℕ} {t : Table} {n copies : ℕ} → Compiles text t n → (fs : List Fed) → Computed t fs copies → (b : Box) → Shown t b fs
shown {t = t} c fs d b =
    let y : script.Box = script.started (script_of t) in
    let r = same_run c 1 fs events d.calls b y in
    record {
      asked = record {
        run = record { calls = d.calls; single = refl; quiet = r.quiet ∙ d.quiet y };
        events = refl;
        taken = r.taken ∙ d.taken y;
        buffers = d.buffers;
      };
      says = r.compared ∙ d.says y;
    }

one_shown : (b : Box) → Shown one b one_run
one_shown = shown one_compiles one_run computed.0

other_shown : (b : Box) → Shown other b other_run
other_shown = shown other_compiles other_run computed.1

-- so the theorem holds of them
same : (b c : Box) → parts (of_table one) 1 b one_run ≡ parts (of_table other) 1 c other_run
same b c = norths_apart one_text other_text one other 2 5 one_compiles other_compiles 1 neighbours b c events one_run other_run (one_shown b).asked (other_shown c).asked
