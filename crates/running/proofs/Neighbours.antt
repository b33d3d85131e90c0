-- One process of a script does not move another. Assumes nothing.
use mathlib.Core.Path.{◌≡◌, refl, sym, ap, ap₂, subst, ◌∙◌}
use mathlib.Core.Bool.{Bool, true, false, cond, not}
use mathlib.Core.List.{List, [], ◌∷◌, map}
use Prim.Native.Nat.{ℕ}
use native.Mathlib.Omega.{arith}
use lib.Dec.{ltb}
use lib.ListN.{length, set, get_or-map}
use borrow.Author.Tests.{not-true}
use Rattle.reader.specs.Bytes.{all}
use Rattle.reader.proofs.Tests.{both_left, both_right, true_is_false}
use Rattle.language.specs.Script.{Script}
use Rattle.running.specs.Joined.{done}
use Rattle.process.specs.declared.Reading.{Reading}
use Rattle.events.specs.Events.{reading_right}
use Rattle.runner.specs.Calls.{Call, start, tick, byte, reading, level, ticks, bytes, drain, Reply}
use Rattle.running.specs.Running.{Process, Wait, for_nothing, Box, ticked, gets, read, levelled, busy, Called, at_first, waiting, started, called}
use Rattle.running.specs.Called.{process}
use Rattle.running.specs.Neighbours.{Fed, calls_of, is_single, Part, drained_by, fed_with, quietly, says, parts, of_script, Agree, ScriptsApart}
use Rattle.running.proofs.Drains.{of, quiet_idle}
use Rattle.running.proofs.Waiting.{acts_on}
use Rattle.running.proofs.Alone.{Alone, one_way, went}

-- two boxes that agree in process k, in the reading and in the levels; whether recording is paused is left out
record Near (k : ℕ) (b c : Box) : Type 0 where
  process : process k b ≡ process k c
  reading : b.reading ≡ c.reading
  levels : b.levels ≡ c.levels

-- ---- a start makes them so

starts_near : (k : ℕ) (s r : Script) → Agree k s r → Near k (started s) (started r)
unfolding started
starts_near k s r g = record { process = get_or-map at_first (done s.body) k [] ∙ ap at_first g ∙ sym (get_or-map at_first (done r.body) k []); reading = refl; levels = refl }

-- ---- at a quiet moment every call but a gulp keeps them so

module _ (k : ℕ) (s r : Script) (g : Agree k s r) (b c : Box) (n : Near k b c) (i : busy b ≡ false) (j : busy c ≡ false) where
  -- an event acts on the waits of all processes alike
  acts_near : (f : Wait → Wait) → f for_nothing ≡ for_nothing → of k (map (waiting f) b.processes) ≡ of k (map (waiting f) c.processes)
  acts_near f e = acts_on f e b.processes k ∙ ap (waiting f) n.process ∙ sym (acts_on f e c.processes k)

  -- both take it, or both refuse it, which alters nothing
  either : (u : Bool) (x y v w : Called) → Near k x.box v.box → Near k y.box w.box → Near k (cond u x y).box (cond u v w).box
  either true x y v w z o = z
  either false x y v w z o = o

  calls_near : (q : Call) → is_single q ≡ true → Near k (called s q b).box (called r q c).box
  unfolding called ticked gets read levelled
  calls_near start e = starts_near k s r g
  calls_near tick e = rw (i, j) (record { process = acts_near ticked refl; reading = n.reading; levels = n.levels })
  calls_near (byte x) e = rw (i, j) (record { process = acts_near (gets x) refl; reading = n.reading; levels = n.levels })
  calls_near (reading x) e = rw (i, j) (either (reading_right x) _ _ _ _ (record { process = acts_near (read x) refl; reading = refl; levels = n.levels }) n)
  calls_near (level m is) e =
      rw (i, j) (either (ltb m 5) _ _ _ _
      (record { process = acts_near (levelled m is) refl; reading = n.reading; levels = ap (λ (l : List Bool). set l m is) n.levels }) n)
  calls_near (ticks m) e = true_is_false (sym e)
  calls_near (bytes run room) e = true_is_false (sym e)
  calls_near (drain room) e = rw ((quiet_idle s b room i).box, (quiet_idle r c room j).box) n

-- ---- drained to quiet

record Both (k : ℕ) (l m : List Reply) (b c : Box) : Type 0 where
  said : l ≡ m
  near : Near k b c

drains_near : (k : ℕ) (s r : Script) (b c : Box) → Near k b c → (ds es : List ℕ) → busy (drained_by (of_script s) b ds) ≡ false → busy (drained_by (of_script r) c es) ≡ false →
    Both k (says (of_script s) k b ds) (says (of_script r) k c es) (drained_by (of_script s) b ds) (drained_by (of_script r) c es)
drains_near k s r b c n ds es x y =
    let u = went s k b ds x in
    let v = went r k c es y in
    let l : List Reply = says (of_script s) k b ds in
    let p : Process = process k b in
    let q : Process = process k (drained_by (of_script s) b ds) in
    let alone : Alone c.reading c.levels p l q =
    subst (λ (x : Reading). Alone x c.levels p l q) n.reading (subst (λ (ls : List Bool). Alone b.reading ls p l q) n.levels u.alone)
    in
    let o = one_way c.reading c.levels n.process alone v.alone in
    record {
      said = o.said;
      near = record {
        process = o.left;
        reading = u.reading ∙ n.reading ∙ sym v.reading;
        levels = u.levels ∙ n.levels ∙ sym v.levels;
      };
    }

-- ---- whole runs

module _ (k : ℕ) (s r : Script) (g : Agree k s r) where
  abbrev Same : Box → Box → List Fed → List Fed → Type 0
  Same b c fs hs = quietly (of_script s) b fs ≡ true → quietly (of_script r) c hs ≡ true → calls_of fs ≡ calls_of hs →
      parts (of_script s) k b fs ≡ parts (of_script r) k c hs

  -- one call with the drains after it, and then the rest
  fed_near : (b c : Box) (f h : Fed) (fs hs : List Fed) → Near k (called s f.call b).box (called r h.call c).box →
      (Near k (fed_with (of_script s) f b) (fed_with (of_script r) h c) → busy (fed_with (of_script s) f b) ≡ false → busy (fed_with (of_script r) h c) ≡ false →
      Same (fed_with (of_script s) f b) (fed_with (of_script r) h c) fs hs) → Same b c (f ∷ fs) (h ∷ hs)
  unfolding quietly parts
  fed_near b c f h fs hs n rest x y e =
      let i = not-true (busy (fed_with (of_script s) f b)) (both_left (not (busy (fed_with (of_script s) f b))) _ x) in
      let j = not-true (busy (fed_with (of_script r) h c)) (both_left (not (busy (fed_with (of_script r) h c))) _ y) in
      let d = drains_near k s r (called s f.call b).box (called r h.call c).box n f.rooms h.rooms i j in
      let more : calls_of fs ≡ calls_of hs = cc in
      ap₂ (λ (p : Part Process) (ps : List (Part Process)). p ∷ ps)
      (ap₂ (λ (l : List Reply) (q : Process). record { replies = l; kept = q }) d.said d.near.process)
      (rest d.near i j (both_right (not (busy (fed_with (of_script s) f b))) _ x) (both_right (not (busy (fed_with (of_script r) h c))) _ y) more)

  runs_near : (fs hs : List Fed) → all is_single (calls_of fs) ≡ true → (b c : Box) → Near k b c → busy b ≡ false → busy c ≡ false → Same b c fs hs
  unfolding parts
  runs_near [] [] o b c n i j x y e = refl
  runs_near [] (h ∷ hs) o b c n i j x y e = absurd (omega (arith, ap (λ (l : List Call). length l) e))
  runs_near (f ∷ fs) [] o b c n i j x y e = absurd (omega (arith, ap (λ (l : List Call). length l) e))
  runs_near (f ∷ fs) (h ∷ hs) o b c n i j x y e =
      let same-call : f.call ≡ h.call = cc in
      fed_near b c f h fs hs (subst (λ (q : Call). Near k (called s f.call b).box (called r q c).box) same-call (calls_near k s r g b c n i j f.call (both_left (is_single f.call) _ o)))
      (λ z u v. runs_near fs hs (both_right (is_single f.call) _ o) (fed_with (of_script s) f b) (fed_with (of_script r) h c) z u v) x y e

-- THE THEOREM
pub scripts_apart : ScriptsApart
unfolding called
scripts_apart k s r g b c es [] other x y = absurd (omega (arith, ap (λ (l : List Call). length l) x.calls))
scripts_apart k s r g b c es (f ∷ fs) [] x y = absurd (omega (arith, ap (λ (l : List Call). length l) y.calls))
scripts_apart k s r g b c es (f ∷ fs) (h ∷ hs) x y =
    let e = x.calls in
    let d = y.calls in
    let first : f.call ≡ start = cc in
    let second : h.call ≡ start = cc in
    let rest : calls_of fs ≡ es = cc in
    fed_near k s r g b c f h fs hs (rw (first, second) (starts_near k s r g))
    (λ z u v. runs_near k s r g fs hs (ap (all is_single) rest ∙ x.single) (fed_with (of_script s) f b) (fed_with (of_script r) h c) z u v) x.quiet y.quiet (x.calls ∙ sym y.calls)
