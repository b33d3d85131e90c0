-- DEMAND 2, what no single function says: the listing of a table that a text compiles to compiles to it too, and the stretch is that of the
-- written-out form. Assumes nothing.
use mathlib.Core.Path.{ap, subst, ◌∙◌}
use mathlib.Core.List.{List}
use Prim.Native.Nat.{ℕ}
use Rattle.language.specs.declared.Table.{Table}
use Rattle.language.specs.Table.{script_of}
use Rattle.language.specs.Stretch.{stretch_of}
use Rattle.language.specs.Answer.{answered, script_from, compiled}
use Rattle.language.proofs.Trip.{right_accepted}
use Rattle.stretch.specs.Marks.{processes_of}
use Rattle.stretch.specs.Reported.{AnswerSays}
use Rattle.stretch.proofs.Reports.{measured_reported}
use Rattle.accepted.proofs.Exactly.{laid_out_lem, script_right_lem}
use Rattle.bounded.specs.Replies.{Compiles}
use Rattle.promises.specs.Demand2.{Faithful}
use Rattle.bounded.proofs.Accepting.{fitting}

pub demand_2 : {text : List ℕ} {t : Table} {k : ℕ} → Compiles text t k → Faithful t k
unfolding compiled script_from answered
demand_2 {t = t} c =
    let a = fitting c in
    let has = right_accepted stretch_of (script_of t) (script_right_lem t a.started) in
    record {
      listed = record { bytes = has.bytes; result = ap answered has.result ∙ rw (a.reported, laid_out_lem t a.started) };
      stretch = subst (AnswerSays (processes_of t.cells t.heads)) a.measures (measured_reported t.cells t.heads);
    }
