-- A drain does one statement of the lowest-numbered ready process, or says quiet. Assumes nothing.
use mathlib.Core.Path.{◌≡◌, refl, sym, ap, ◌∙◌}
use mathlib.Core.Bool.{Bool, true, false, ◌||◌}
use mathlib.Core.List.{List, [], ◌∷◌, ◌++◌}
use Prim.Native.Nat.{ℕ, zero, suc, ◌<◌}
use lib.Dec.{ltb}
use lib.ListN.{length, get_or, length-append}
use borrow.Author.Tests.{ltb-true, lt-ltb}
use Rattle.reader.proofs.Tests.{true_is_false, by_cases}
use Rattle.language.specs.Script.{Statement, send, loop, end, wait_time, wait_data, wait_byte, wait_clock, wait_signal, rts, log, fchange, pause, resume, nop, Script}
use Rattle.process.specs.declared.RunRefusal.TheVariants.{SmallBuffer}
use Rattle.process.specs.State.{any}
use Rattle.statement.specs.declared.outcome.Outcome.TheVariants.{Quiet, Refused}
use Rattle.runner.specs.Calls as calls
use Rattle.runner.specs.Calls.{drain, outcome}
use Rattle.bounded.specs.Replies.{did}
use Rattle.running.specs.Running as script
use Rattle.running.specs.Running.{Process, Box, Next, idle, statement, is_statement, next, ready, busy, does, Turn, none, later, takes, turn, Called, drained, at_first, called}
use Rattle.running.specs.Neighbours.{did_one}
use Rattle.running.specs.Called.{HasTurn, SomeTurn, doing, OneStatement, paused_since}

-- neither of two tests holds
pub neither : (u v : Bool) → (u || v) ≡ false → (u ≡ false) × (v ≡ false)
neither true v e = true_is_false e
neither false v e = (refl, e)

-- a process that is not ready leaves the turn to those after it
not_ready : (n : Next) → is_statement n ≡ false → n ≡ idle
unfolding is_statement
not_ready idle e = refl
not_ready (statement s ss) e = true_is_false e

nobody_turns : (b : Box) (ps : List Process) → any ready ps ≡ false → turn b ps ≡ none
unfolding turn takes later
nobody_turns b [] e = refl
nobody_turns b (p ∷ ps) e =
    rw (not_ready (next p) (neither (ready p) (any ready ps) e).0, nobody_turns b ps (neither (ready p) (any ready ps) e).1)

-- the turn of the lowest that is ready
turns : (b : Box) (before : List Process) (p : Process) (behind : List Process) (x : Statement) (ss : List Statement) → any ready before ≡ false → next p ≡ statement x ss →
    turn b (before ++ (p ∷ behind))
    ≡ script.did (before ++ ((does b p ss x).process ∷ behind)) (does b p ss x).paused (does b p ss x).says (does b p ss x).bytes
unfolding turn takes later
turns b [] p behind x ss l n = rw n
turns b (r ∷ before) p behind x ss l n =
    rw (not_ready (next r) (neither (ready r) (any ready before) l).0, turns b before p behind x ss (neither (ready r) (any ready before) l).1 n)

-- which one that is
found_in : (ps : List Process) → any ready ps ≡ true → SomeTurn ps
unfolding is_statement
found_in [] e = true_is_false (sym e)
found_in (p ∷ ps) e = go (next p) refl (found_in ps)
  where
    go : (n : Next) → next p ≡ n → (any ready ps ≡ true → SomeTurn ps) → SomeTurn (p ∷ ps)
    go idle n f =
        let r = f (rw n at e) in
        record {
          before = p ∷ r.before;
          process = r.process;
          behind = r.behind;
          statement = r.statement;
          rest = r.rest;
          turn = record { parts = ap (λ (l : List Process). p ∷ l) r.turn.parts; lowest = rw n r.turn.lowest; ready = r.turn.ready };
        }
    go (statement x ss) n f = record {
      before = [];
      process = p;
      behind = ps;
      statement = x;
      rest = ss;
      turn = record { parts = refl; lowest = refl; ready = n };
    }

-- no statement says quiet, and what it says tells what it does to recording
pub says_so : (b : Box) (p : Process) (ss : List Statement) (x : Statement) →
    (did (does b p ss x).says ≡ true) × ((does b p ss x).paused ≡ paused_since (does b p ss x).says b.paused)
unfolding does
says_so b p ss (send bs) = (refl, refl)
says_so b p ss (loop n) = (refl, refl)
says_so b p ss end = (refl, refl)
says_so b p ss (wait_time n) = (refl, refl)
says_so b p ss (wait_data bs) = (refl, refl)
says_so b p ss (wait_byte n) = (refl, refl)
says_so b p ss (wait_clock vs) = (refl, refl)
says_so b p ss (wait_signal n on) = (refl, refl)
says_so b p ss (rts on) = (refl, refl)
says_so b p ss (log text) = (refl, refl)
says_so b p ss fchange = (refl, refl)
says_so b p ss pause = (refl, refl)
says_so b p ss resume = (refl, refl)
says_so b p ss nop = (refl, refl)

module _ (s : Script) (b : Box) (room : ℕ) (wide : 127 < room) where
  one_of : (before : List Process) (p : Process) (behind : List Process) (x : Statement) (ss : List Statement) → HasTurn b.processes before p behind x ss →
      called s (drain room) b ≡ doing b (before ++ ((does b p ss x).process ∷ behind)) (does b p ss x)
  unfolding called drained
  one_of before p behind x ss h =
      let t : turn b b.processes ≡ script.did (before ++ ((does b p ss x).process ∷ behind)) (does b p ss x).paused (does b p ss x).says (does b p ss x).bytes =
      ap (turn b) h.parts ∙ turns b before p behind x ss h.lowest h.ready
      in
      rw (lt-ltb 127 room wide, t)

  some_of : busy b ≡ true → SomeTurn b.processes
  unfolding busy
  some_of e = found_in b.processes e

  quiet_of : busy b ≡ false → called s (drain room) b ≡ record { box = b; reply = outcome Quiet [] }
  unfolding called drained busy
  quiet_of e = rw (lt-ltb 127 room wide, nobody_turns b b.processes e)

  only_of : (called s (drain room) b).reply ≡ outcome Quiet [] → busy b ≡ false
  only_of e = go (busy b) refl
    where
      go : (u : Bool) → busy b ≡ u → u ≡ false
      go true k =
          let t = some_of k in
          let d = does b t.process t.rest t.statement in
          let r : ◌≡◌ {A = calls.Reply} (outcome d.says d.bytes) (outcome Quiet []) = ap (λ (c : Called). c.reply) (sym (one_of t.before t.process t.behind t.statement t.rest t.turn)) ∙ e in
          let q : d.says ≡ Quiet = cc in
          true_is_false (sym (says_so b t.process t.rest t.statement).0 ∙ ap did q)
      go false k = refl

  pub one_statement_lem : OneStatement s b room wide
  unfolding does
  one_statement_lem = record {
    one = one_of;
    sends = λ before p behind bs ss h. ap (λ (c : Called). c.reply) (one_of before p behind (send bs) ss h);
    records = λ before p behind text ss h. ap (λ (c : Called). c.reply) (one_of before p behind (log text) ss h);
    some = some_of;
    quiet = quiet_of;
    only = only_of;
  }

-- ---- the processes after a turn

-- process k of some
abbrev pub of : ℕ → List Process → Process
of k ps = get_or ps k (at_first [])

-- those after a turn
abbrev pub after : List Process → Turn → List Process
after ps none = ps
after ps (script.did qs paused o bs) = qs

pub drained_is : (b : Box) (t : Turn) → (drained b t).box.processes ≡ after b.processes t
unfolding drained
drained_is b none = refl
drained_is b (script.did ps paused o bs) = refl

-- one that is not ready stays as it is
turn_leaves : (b : Box) (ps : List Process) (k : ℕ) → ready (of k ps) ≡ false → of k (after ps (turn b ps)) ≡ of k ps
unfolding turn takes later is_statement
turn_leaves b [] k h = refl
turn_leaves b (p ∷ ps) zero h = go (next p) (turn b ps) h
  where
    go : (n : Next) (t : Turn) → is_statement n ≡ false → of 0 (after (p ∷ ps) (takes b p ps n t)) ≡ p
    go idle none e = refl
    go idle (script.did qs paused o bs) e = refl
    go (statement x ss) t e = true_is_false e
turn_leaves b (p ∷ ps) (suc k) h = go (next p) (turn b ps) (turn_leaves b ps k h)
  where
    go : (n : Next) (t : Turn) → of k (after ps t) ≡ of k ps → of (suc k) (after (p ∷ ps) (takes b p ps n t)) ≡ of k ps
    go idle none e = e
    go idle (script.did qs paused o bs) e = e
    go (statement x ss) t e = refl

pub drain_leaves : (s : Script) (b : Box) (room k : ℕ) → ready (of k b.processes) ≡ false → of k (called s (drain room) b).box.processes ≡ of k b.processes
unfolding called
drain_leaves s b room k h =
    by_cases (λ (r : Called). of k r.box.processes ≡ of k b.processes) (ltb 127 room) (drained b (turn b b.processes)) (record { box = b; reply = outcome (Refused SmallBuffer) [] })
    (λ u. ap (of k) (drained_is b (turn b b.processes)) ∙ turn_leaves b b.processes k h) (λ u. refl)

-- ---- a drain that does nothing: no process is ready, or its buffer is too small

pub record Idle (s : Script) (b : Box) (room : ℕ) : Type 0 where
  pub box : (called s (drain room) b).box ≡ b
  pub reply : did_one (called s (drain room) b).reply ≡ false

pub small_idle : (s : Script) (b : Box) (room : ℕ) → ltb 127 room ≡ false → Idle s b room
small_idle s b room e = record { box = ap (λ (c : Called). c.box) refused; reply = ap (λ (c : Called). did_one c.reply) refused }
  where
    refused : called s (drain room) b ≡ record { box = b; reply = outcome (Refused SmallBuffer) [] }
    refused = unfold called in rw e

pub quiet_idle : (s : Script) (b : Box) (room : ℕ) → busy b ≡ false → Idle s b room
quiet_idle s b room q = go (ltb 127 room) refl
  where
    go : (u : Bool) → ltb 127 room ≡ u → Idle s b room
    go false e = small_idle s b room e
    go true e =
        let o = (one_statement_lem s b room (ltb-true 127 room e)).quiet q in
        record { box = ap (λ (c : Called). c.box) o; reply = ap (λ (c : Called). did_one c.reply) o }

-- ---- any drain leaves as many processes

pub drain_many : (s : Script) (room : ℕ) (b : Box) → length (called s (drain room) b).box.processes ≡ length b.processes
drain_many s room b = go (ltb 127 room) refl (busy b) refl
  where
    go : (u : Bool) → ltb 127 room ≡ u → (v : Bool) → busy b ≡ v → length (called s (drain room) b).box.processes ≡ length b.processes
    go false e v d = ap (λ (c : Box). length c.processes) (small_idle s b room e).box
    go true e false d = ap (λ (c : Box). length c.processes) (quiet_idle s b room d).box
    go true e true d =
        let o = one_statement_lem s b room (ltb-true 127 room e) in
        let t = o.some d in
        ap (λ (c : Called). length c.box.processes) (o.one t.before t.process t.behind t.statement t.rest t.turn)
        ∙ length-append t.before _
        ∙ sym (length-append t.before (t.process ∷ t.behind))
        ∙ ap (λ (ps : List Process). length ps) (sym t.turn.parts)
