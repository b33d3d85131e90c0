-- One process of the runner does not move another: what it says is what the script's process says. Assumes nothing.
use mathlib.Core.Path.{◌≡◌, sym, ap, ap₂, ◌∙◌}
use mathlib.Core.List.{List, [], ◌∷◌, map}
use Prim.Native.Nat.{ℕ}
use lib.ListN.{get_or-map}
use Rattle.language.specs.declared.Table.{Table}
use Rattle.language.specs.Script.{Statement, Script, processes}
use Rattle.language.specs.Table.{script_of}
use Rattle.runner.specs.Calls as calls
use Rattle.runner.specs.Calls.{Call, start}
use Rattle.bounded.specs.Replies.{Compiles}
use Rattle.running.specs.Joined.{joined_in, done}
use Rattle.running.specs.Running.{Process, Box, started}
use Rattle.running.specs.Neighbours.{Fed, calls_of, Part, Agree, AgreeInLines, BoxesApart, NorthsApart}
use Rattle.running.proofs.Agreement.{own_script}
use Rattle.running.proofs.Neighbours.{scripts_apart}
use Rattle.running.proofs.SameRuns.{tabled, Sames, started_sames}

-- a run of the runner, and that of the script
pub same_run : {text : List ℕ} {t : Table} {n : ℕ} (c : Compiles text t n) (k : ℕ) (fs : List Fed) (es : List Call) → calls_of fs ≡ start ∷ es →
    (b : calls.Box) (y : Box) → Sames t (script_of t) n (own_script c) k b y fs
same_run {t = t} {n = n} c k fs es e b y = started_sames t (script_of t) n (own_script c) k fs es e b y

-- the same lines are done alike
done_alike : (k : ℕ) (s r : Script) → AgreeInLines k s r → Agree k s r
unfolding done joined_in
done_alike k s r g = get_or-map joined_in (processes s.body) k [] ∙ ap joined_in g ∙ sym (get_or-map joined_in (processes r.body) k [])

-- THE THEOREM
pub boxes_apart : BoxesApart
boxes_apart text another t u i j c d k g b y es one other x z =
    let s : Script = script_of t in
    let r : Script = script_of u in
    let p = same_run c k one es x.calls b (started s) in
    let q = same_run d k other es z.calls y (started r) in
    let same = scripts_apart k s r (done_alike k s r g) (started s) (started r) es one other (record { calls = x.calls; single = x.single; quiet = sym p.quiet ∙ x.quiet })
    (record { calls = z.calls; single = z.single; quiet = sym q.quiet ∙ z.quiet })
    in
    p.compared ∙ ap₂ (λ (ss : List Statement) (l : List (Part Process)). map (tabled ss) l) g same ∙ sym q.compared

-- document 02's own sentence is a case of it
pub norths_apart : NorthsApart
norths_apart text another t u i j c d k n b y es one other x z = boxes_apart text another t u i j c d k n.agree b y es one other x.run z.run
