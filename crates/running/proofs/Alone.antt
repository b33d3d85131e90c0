-- Drained to quiet, a process goes its own way: what it says and where it rests hang on itself, the reading and the levels, and on no other process.
-- Assumes nothing.
use mathlib.Core.Path.{◌≡◌, refl, sym, ap, ap₂, subst, ◌∙◌}
use mathlib.Core.Bool.{Bool, true, false}
use mathlib.Core.List.{List, [], ◌∷◌, ◌++◌}
use Prim.Native.Nat.{ℕ, zero, suc, ◌<◌}
use native.Mathlib.Decide.{ℕ_discrete}
use native.Mathlib.Omega.{arith}
use lib.Dec.{ltb}
use lib.ListN.{length}
use borrow.Author.Tests.{ltb-true, eq-eqb, ne_eqb}
use Rattle.reader.proofs.Tests.{true_is_false}
use Rattle.language.specs.Script.{Statement, send, loop, end, wait_time, wait_data, wait_byte, wait_clock, wait_signal, rts, log, fchange, pause, resume, nop, Script}
use Rattle.process.specs.declared.Reading.{Reading}
use Rattle.process.specs.State.{any}
use Rattle.runner.specs.Calls.{drain, Reply, outcome}
use Rattle.running.specs.Running.{Process, Box, statement, is_statement, next_in, next_by, next, ready, busy, Deed, does, Called, called}
use Rattle.running.specs.Called.{process, SomeTurn, doing}
use Rattle.running.specs.Neighbours.{drained_by, did_one, says_in, says, lowest, of_script}
use Rattle.running.proofs.Drains.{neither, says_so, one_statement_lem, of, Idle, small_idle, quiet_idle}

-- ---- what a statement does is up to its process, the reading and the levels

abbrev bare : Reading → List Bool → Box
bare r ls = record { processes = []; reading = r; levels = ls; paused = false }

-- the process after it, and what it says
abbrev heard : Deed → Process × Reply
heard d = (d.process, outcome d.says d.bytes)

same : (b : Box) (p : Process) (ss : List Statement) (x : Statement) → heard (does b p ss x) ≡ heard (does (bare b.reading b.levels) p ss x)
unfolding does
same b p ss (send bs) = refl
same b p ss (loop n) = refl
same b p ss end = refl
same b p ss (wait_time n) = refl
same b p ss (wait_data bs) = refl
same b p ss (wait_byte n) = refl
same b p ss (wait_clock vs) = refl
same b p ss (wait_signal n is) = refl
same b p ss (rts is) = refl
same b p ss (log text) = refl
same b p ss fchange = refl
same b p ss pause = refl
same b p ss resume = refl
same b p ss nop = refl

-- ---- a process by itself, up to where it is not ready

module _ (r : Reading) (ls : List Bool) where
  -- what a statement makes of it, and what it says
  abbrev step : Process → List Statement → Statement → Process
  step p ss x = (does (bare r ls) p ss x).process

  abbrev saying : Process → List Statement → Statement → Reply
  saying p ss x = outcome (does (bare r ls) p ss x).says (does (bare r ls) p ss x).bytes

  pub data Alone : Process → List Reply → Process → Type 0 where
    rests : {p : Process} → ready p ≡ false → Alone p [] p
    goes : {p q : Process} {l : List Reply} (x : Statement) (ss : List Statement) → next p ≡ statement x ss → Alone (step p ss x) l q → Alone p (saying p ss x ∷ l) q

  pub record One (l m : List Reply) (p q : Process) : Type 0 where
    pub said : l ≡ m
    pub left : p ≡ q

  -- there is one way only
  pub one_way : {p p' q q' : Process} {l m : List Reply} → p ≡ p' → Alone p l q → Alone p' m q' → One l m q q'
  unfolding is_statement
  one_way e (rests i) (rests j) = record { said = refl; left = e }
  one_way e (rests i) (goes x ss n a) = true_is_false (sym (ap is_statement (ap next e ∙ n)) ∙ i)
  one_way e (goes x ss n a) (rests j) = true_is_false (sym (ap is_statement (ap next (sym e) ∙ n)) ∙ j)
  one_way {p} {p'} e (goes x ss n a) (goes y ts o c) =
      let z : statement x ss ≡ statement y ts = sym n ∙ ap next e ∙ o in
      let u : x ≡ y = cc in
      let v : ss ≡ ts = cc in
      let rest = one_way (ap (λ (w : Process). step w ss x) e ∙ ap₂ (step p') v u) a c in
      record {
        said = ap₂ (λ (w : Reply) (ws : List Reply). w ∷ ws) (ap (λ (w : Process). saying w ss x) e ∙ ap₂ (saying p') v u) rest.said;
        left = rest.left;
      }

-- ---- the process that has its turn, and the others

module _ (p q : Process) (behind : List Process) where
  turns_at : (before : List Process) (k : ℕ) → k ≡ length before → of k (before ++ (p ∷ behind)) ≡ p
  turns_at [] zero e = refl
  turns_at [] (suc k) e = absurd (omega arith)
  turns_at (r ∷ before) zero e = absurd (omega arith)
  turns_at (r ∷ before) (suc k) e = turns_at before k (omega arith)

  others_at : (before : List Process) (k : ℕ) → (k ≡ length before → ⊥) → of k (before ++ (q ∷ behind)) ≡ of k (before ++ (p ∷ behind))
  others_at [] zero n = absurd (n refl)
  others_at [] (suc k) n = refl
  others_at (r ∷ before) zero n = refl
  others_at (r ∷ before) (suc k) n = others_at before k (λ e. n (ap suc e))

  lowest_at : (before : List Process) (x : Statement) (ss : List Statement) → any ready before ≡ false → next p ≡ statement x ss → lowest (before ++ (p ∷ behind)) ≡ length before
  unfolding lowest is_statement
  lowest_at [] x ss l n = rw n
  lowest_at (r ∷ before) x ss l n =
      let d = neither (ready r) (any ready before) l in
      rw d.0 (ap suc (lowest_at before x ss d.1 n))

-- where no process is ready, process k is not
idle_at : (ps : List Process) (k : ℕ) → any ready ps ≡ false → ready (of k ps) ≡ false
unfolding next_by next_in is_statement
idle_at [] k e = refl
idle_at (p ∷ ps) zero e = (neither (ready p) (any ready ps) e).0
idle_at (p ∷ ps) (suc k) e = idle_at ps k (neither (ready p) (any ready ps) e).1

-- ---- any drain

module _ (s : Script) (k : ℕ) (b : Box) (room : ℕ) where
  abbrev then : Box
  then = (called s (drain room) b).box

  -- it leaves the reading and the levels; and process k says nothing and stays as it is, or does its statement
  pub data Ways : Type 0 where
    other : process k then ≡ process k b → says_in (of_script s) k b room ≡ [] → Ways
    own : (x : Statement) (ss : List Statement) → next (process k b) ≡ statement x ss → process k then ≡ (does b (process k b) ss x).process →
        says_in (of_script s) k b room ≡ outcome (does b (process k b) ss x).says (does b (process k b) ss x).bytes ∷ [] → Ways

  pub record Drain : Type 0 where
    pub ways : Ways
    pub reading : then.reading ≡ b.reading
    pub levels : then.levels ≡ b.levels

  idly : Idle s b room → Drain
  unfolding says_in
  idly i =
      record {
        ways = other (ap (process k) i.box) (rw i.reply);
        reading = ap (λ (x : Box). x.reading) i.box;
        levels = ap (λ (x : Box). x.levels) i.box;
      }

  -- one that does a statement
  module _ (wide : 127 < room) (t : SomeTurn b.processes) where
    abbrev d : Deed
    d = does b t.process t.rest t.statement

    done : called s (drain room) b ≡ doing b (t.before ++ (d.process ∷ t.behind)) d
    done = (one_statement_lem s b room wide).one t.before t.process t.behind t.statement t.rest t.turn

    low : lowest b.processes ≡ length t.before
    low = ap lowest t.turn.parts ∙ lowest_at t.process t.process t.behind t.before t.statement t.rest t.turn.lowest t.turn.ready

    told : did_one (called s (drain room) b).reply ≡ true
    told = rw done (says_so b t.process t.rest t.statement).0

    its_own : k ≡ length t.before → Ways
    unfolding says_in
    its_own e =
        let here : process k b ≡ t.process = ap (of k) t.turn.parts ∙ turns_at t.process t.process t.behind t.before k e in
        let there : process k then ≡ d.process = ap (λ (c : Called). process k c.box) done ∙ turns_at d.process d.process t.behind t.before k e in
        own t.statement t.rest (ap next here ∙ t.turn.ready) (there ∙ rw here) (rw (told, low, eq-eqb k (length t.before) e, here, done))

    another's : (k ≡ length t.before → ⊥) → Ways
    unfolding says_in
    another's n =
        other
        (ap (λ (c : Called). process k c.box) done ∙ others_at t.process d.process t.behind t.before k n ∙ ap (of k) (sym t.turn.parts))
        (rw (told, low, ne_eqb k (length t.before) n))

    turning : Drain
    turning = record {
      ways = elim (ℕ_discrete k (length t.before)) [ yes e ↦ its_own e | no n ↦ another's n ];
      reading = ap (λ (c : Called). c.box.reading) done;
      levels = ap (λ (c : Called). c.box.levels) done;
    }

  pub drains : Drain
  drains = go (ltb 127 room) refl (busy b) refl
    where
      go : (u : Bool) → ltb 127 room ≡ u → (v : Bool) → busy b ≡ v → Drain
      go false e v d = idly (small_idle s b room e)
      go true e false d = idly (quiet_idle s b room d)
      go true e true d = turning (ltb-true 127 room e) ((one_statement_lem s b room (ltb-true 127 room e)).some d)

-- ---- drained to quiet

pub record Went (s : Script) (k : ℕ) (b : Box) (rooms : List ℕ) : Type 0 where
  pub alone : Alone b.reading b.levels (process k b) (says (of_script s) k b rooms) (process k (drained_by (of_script s) b rooms))
  pub reading : (drained_by (of_script s) b rooms).reading ≡ b.reading
  pub levels : (drained_by (of_script s) b rooms).levels ≡ b.levels

pub went : (s : Script) (k : ℕ) (b : Box) (rooms : List ℕ) → busy (drained_by (of_script s) b rooms) ≡ false → Went s k b rooms
unfolding busy drained_by says
went s k b [] h = record { alone = rests (idle_at b.processes k h); reading = refl; levels = refl }
went s k b (room ∷ rooms) h =
    let d = drains s k b room in
    let c : Box = (called s (drain room) b).box in
    let w = went s k c rooms h in
    let rest : List Reply = says (of_script s) k c rooms in
    let last : Process = process k (drained_by (of_script s) c rooms) in
    record {
      alone =
          go d.ways rest last
          (subst (λ (r : Reading). Alone r b.levels (process k c) rest last) d.reading
          (subst (λ (ls : List Bool). Alone c.reading ls (process k c) rest last) d.levels w.alone));
      reading = w.reading ∙ d.reading;
      levels = w.levels ∙ d.levels;
    }
  where
    go : Ways s k b room → (l : List Reply) (q : Process) → Alone b.reading b.levels (process k (called s (drain room) b).box) l q →
        Alone b.reading b.levels (process k b) (says_in (of_script s) k b room ++ l) q
    go (other x y) l q a = rw y (subst (λ (u : Process). Alone b.reading b.levels u l q) x a)
    go (own st ss n x y) l q a =
        let z = same b (process k b) ss st in
        rw (y, ap (λ (h : Process × Reply). h.1) z)
        (goes st ss n (subst (λ (u : Process). Alone b.reading b.levels u l q) (x ∙ ap (λ (h : Process × Reply). h.0) z) a))
