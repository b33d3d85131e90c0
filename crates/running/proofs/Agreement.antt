-- WHAT RUNS IS THE SCRIPT: every call on a box that was started with the table of an accepted text is answered as the text's script says. Assumes nothing.
use mathlib.Core.Path.{◌≡◌, refl, sym, ap, ap₂, ◌∙◌}
use mathlib.Core.List.{List, [], ◌∷◌}
use Prim.Native.Nat.{ℕ}
use native.Mathlib.Omega.{arith}
use Rattle.std.specs.Prelude.{Ok, Err}
use Rattle.language.specs.declared.Table.{Table}
use Rattle.language.specs.Script.{Script}
use Rattle.language.specs.Table.{script_of}
use Rattle.language.specs.declared.Compiled.{Compiled}
use Rattle.language.specs.Draft.{Result, accepted, refused}
use Rattle.language.specs.Answer.{CompilerAnswer, refusal_of, answered, script_from, compiled}
use Rattle.accepted.specs.Accepted.{table_right}
use Rattle.runner.specs.Starting.{start_event}
use Rattle.runner.specs.Calls as calls
use Rattle.runner.specs.Calls.{Box, Call, start, tick, reading, ticks, bytes, drain, Reply, start_call}
use Rattle.bounded.specs.Replies.{Compiles}
use Rattle.bounded.proofs.Calling.{start_all, call_keeps}
use Rattle.bounded.proofs.Keeping.{All}
use Rattle.running.specs.Running as script
use Rattle.running.specs.Agreement.{RunsScript}
use Rattle.running.proofs.Starts.{Bears, bears}
use Rattle.running.proofs.EventsAgree.{box_of, InStep, Answers, after_in_step, start_answers, tick_answers, byte_answers, reading_answers, level_answers}
use Rattle.running.proofs.GulpsAgree.{ticks_answers, bytes_answers}
use Rattle.running.proofs.DrainsAgree.{drain_answers}

-- ---- every call

module _ (t : Table) (s : Script) (k : ℕ) (a : Bears t s k) where
  module _ (b : Box) (ps : List script.Process) (f : ℕ → ℕ) (w : InStep t k b ps f) where
    pub call_answers : (q : Call) → Answers t (calls.called table_right t q b) (script.called s q (box_of b.state ps))
    call_answers start = start_answers t s k a b (box_of b.state ps)
    call_answers tick = tick_answers t s k a b ps f w
    call_answers (calls.byte x) = byte_answers t s k a b ps f w x
    call_answers (reading r) = reading_answers t s k a b ps f w r
    call_answers (calls.level n on) = level_answers t s k a b ps f w n on
    call_answers (ticks n) = ticks_answers t s k a b ps f w n
    call_answers (bytes run room) = bytes_answers t s k a b ps f w run room
    call_answers (drain room) = drain_answers t s k a b ps f w room

  -- ---- all of them

  pub start_bounded : (b : Box) → All t k (calls.called table_right t start b).box.state (λ i. 0)
  unfolding calls.called start_call start_event
  start_bounded b = rw a.fits.started (start_all t k a.fits)

  runs_alike : (qs : List Call) (b : Box) (ps : List script.Process) (f : ℕ → ℕ) → InStep t k b ps f → calls.replies table_right t b qs ≡ script.replies s (box_of b.state ps) qs
  unfolding calls.replies script.replies
  runs_alike [] b ps f w = refl
  runs_alike (q ∷ qs) b ps f w =
      let x = call_answers b ps f w q in
      ap₂ (λ (r : Reply) (rs : List Reply). r ∷ rs) x.reply
      (runs_alike qs (calls.called table_right t q b).box x.after _ (after_in_step x (call_keeps t k a.fits b f w.bounded q).all) ∙ ap (λ (y : script.Box). script.replies s y qs) (sym x.box))

  starts_alike : (b : Box) (y : script.Box) (qs : List Call) → calls.replies table_right t b (start ∷ qs) ≡ script.replies s y (start ∷ qs)
  unfolding calls.replies script.replies
  starts_alike b y qs =
      let x = start_answers t s k a b y in
      ap₂ (λ (r : Reply) (rs : List Reply). r ∷ rs) x.reply
      (runs_alike qs (calls.called table_right t start b).box x.after (λ i. 0) (after_in_step x (start_bounded b)) ∙ ap (λ (z : script.Box). script.replies s z qs) (sym x.box))

-- the script that an accepted text says is that of its table
said_by : (r : Result) {text : List ℕ} {t : Table} {k : ℕ} → Compiles text t k → script_from text ≡ r → r ≡ accepted (script_of t)
unfolding compiled script_from answered
said_by (accepted s) c e = ap accepted (sym (bears c s e).script)
said_by (refused f row column) {k = k} c e =
    let z : ◌≡◌ {A = CompilerAnswer} (Err (refusal_of f row column)) (Ok k) = ap (λ (x : Compiled). x.answer) (sym (ap answered e) ∙ c.result) in
    let y : ◌≡◌ {A = ℕ} 0 1 = cc in
    absurd (omega arith)

-- so a table bears its own script
pub own_script : {text : List ℕ} {t : Table} {k : ℕ} → Compiles text t k → Bears t (script_of t) k
own_script {text} {t} c = bears c (script_of t) (said_by (script_from text) c refl)

-- THE THEOREM: a text that compiles says a script, and the runner answers any calls after a start as the script does, whatever the box held
pub runs_script : {text : List ℕ} {t : Table} {k : ℕ} → Compiles text t k → RunsScript text t
runs_script {text} {t} {k} c = record { script = script_of t; said = said_by (script_from text) c refl; answers = starts_alike t (script_of t) k (own_script c) }
