-- The table of the cases marked P in document 01 holds: each case is what the definitions compute; a run is computed of the script, and the runner has it
-- by the theorem that what runs is the script. Assumes nothing.
use mathlib.Core.Path.{◌≡◌, refl, sym, ap, ◌∙◌}
use mathlib.Core.Bool.{true}
use mathlib.Core.List.{List, [], ◌∷◌}
use Prim.Native.Nat.{ℕ}
use Rattle.std.specs.Prelude.{Ok}
use Rattle.reader.specs.Bytes.{all}
use Rattle.reader.specs.Ascii.{ascii}
use Rattle.figures.specs.Written as writing
use Rattle.language.specs.Right.{is_byte}
use Rattle.language.specs.Right as right
use Rattle.language.specs.Cell as cell
use Rattle.language.specs.Table as table
use Rattle.language.specs.Draft.{Result}
use Rattle.language.specs.Answer.{answered, script_from, compiled}
use Rattle.running.specs.Joined as joined
use Rattle.language.proofs.Opened.{printed}
use Rattle.events.specs.Recording as recording
use Rattle.record.specs.Logging as logging
use Rattle.runner.specs.Calls.{Call, Reply, event}
use Rattle.running.specs.Running as script
use Rattle.running.specs.Agreement.{replies_of}
use Rattle.running.proofs.Agreement.{runs_script}
use Rattle.promises.specs.Cases.{Case, answers, writes_out, holds, alike, runs, Runs, CaseSays, All, cases}

-- what is computed of a run: the text compiles, and the replies of its script
record Ran (text : List ℕ) (qs : List Call) (rs : List Reply) : Type 0 where
  stretch : ℕ
  bytes : all is_byte text ≡ true
  result : compiled text ≡ record { answer = Ok stretch; table = (compiled text).table }
  replied : (y : script.Box) → replies_of (script_from text) y qs ≡ event (Ok tt) ∷ rs

-- so the runner replies likewise: what runs is the script
runs_so : (text : List ℕ) (qs : List Call) (rs : List Reply) → Ran text qs rs → Runs text qs rs
runs_so text qs rs r =
    let same = runs_script {text = text} {t = (compiled text).table} {k = r.stretch} (record { bytes = r.bytes; result = r.result }) in
    let y : script.Box = script.started same.script in
    record {
      script = r.replied;
      runner = λ b. same.answers b y qs ∙ ap (λ (x : Result). replies_of x y qs) (sym same.said) ∙ r.replied y;
    }

-- what is computed of a case, and of all
abbrev Computed : Case → Type 0
Computed (answers text a) = CaseSays (answers text a)
Computed (writes_out text k) = CaseSays (writes_out text k)
Computed (holds text ps) = CaseSays (holds text ps)
Computed (alike one other) = CaseSays (alike one other)
Computed (runs text qs rs) = Ran (ascii text) qs rs

abbrev AllComputed : List Case → Type 0
AllComputed [] = Unit {0}
AllComputed (c ∷ cs) = Computed c × AllComputed cs

says : (c : Case) → Computed c → CaseSays c
says (answers text a) e = e
says (writes_out text k) e = e
says (holds text ps) e = e
says (alike one other) e = e
says (runs text qs rs) r = runs_so (ascii text) qs rs r

all_say : (cs : List Case) → AllComputed cs → All cs
all_say [] e = tt
all_say (c ∷ cs) e = (says c e.0, all_say cs e.1)

computed : AllComputed cases
unfolding compiled script_from printed writing.repeated_times writing.repeated writing.written writing.run answered is_byte right.time_right cell.span_number cell.clock_number cell.coded cell.span_right cell.unit_right cell.fixed_right cell.cell_of cell.decoded cell.clock_from table.cell_for table.words_from table.pool_of table.ends_from table.heads_of table.laid_out joined.joined_in joined.join_to joined.join_two joined.awaits joined.done script.next_in script.next_by script.is_statement script.busy script.ends_in script.gets script.closed script.logged script.does script.later script.takes script.turn script.drained script.times_by script.times_recorded script.started script.called script.replies recording.one_of logging.sign_text logging.written_out logging.record_of logging.next_count
computed =
    (refl, (λ m. refl, (refl, (λ m. refl, (refl, (λ m. refl, (refl, (refl, (refl, (record { stretch = 0; bytes = refl; result = refl; replied = λ y. refl }, (refl, (refl, (refl, (refl, (refl, (refl, (record { stretch = 1; bytes = refl; result = refl; replied = λ y. refl }, (record { stretch = 1; bytes = refl; result = refl; replied = λ y. refl }, (record { stretch = 7; bytes = refl; result = refl; replied = λ y. refl }, tt)))))))))))))))))))

-- THE THEOREM
pub cases_hold : All cases
cases_hold = all_say cases computed
