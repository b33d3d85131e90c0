-- The processes of the box and those of the script, in their order: busy alike, changed alike by events, and the same one is the lowest that is ready
-- and takes its turn. Assumes nothing.
use mathlib.Core.Path.{◌≡◌, refl, sym, ap, ◌∙◌}
use mathlib.Core.Bool.{Bool, true, false, cond, ◌||◌}
use mathlib.Core.List.{List, [], ◌∷◌, map}
use Prim.Native.Nat.{ℕ, zero, suc, ◌+◌, ◌≤◌, ◌<◌}
use native.Mathlib.Omega.{arith}
use lib.ListN.{length, get_or, set}
use Rattle.reader.proofs.Tests.{true_is_false}
use Rattle.language.specs.declared.Table.{Table}
use Rattle.language.specs.Script.{Statement}
use Rattle.process.specs.declared.Wait.{Wait}
use Rattle.process.specs.declared.Wait.TheVariants.{Over}
use Rattle.process.specs.declared.Process.{Process}
use Rattle.process.specs.Waiting.{ready, with_wait}
use Rattle.process.specs.State.{any}
use Rattle.runner.specs.Draining.{lowest, nobody}
use Rattle.bounded.specs.Demand3.{first_of, end_of}
use Rattle.running.specs.Running as script
use Rattle.running.specs.Running.{Box, Next, idle, statement, is_statement, next, Turn, none, did, later, takes, turn, does, waiting, at_first}
use Rattle.running.specs.Neighbours as neighbours
use Rattle.running.proofs.From.{from}
use Rattle.running.proofs.Alike.{Waits, Related, related_ready, related_event}

-- the processes that the table does not have
abbrev pub AllOver : List Process → Type 0
AllOver [] = Unit {0}
AllOver (p ∷ ps) = (p.wait ≡ Over) × AllOver ps

-- process i of the table
abbrev pub Alike : Table → ℕ → List ℕ → Process → script.Process → Type 0
Alike t i counts p q = Related t.cells t.pool (first_of t.heads i) (end_of t.heads i) counts p q

-- the processes of the box from number i on, and those of the script; what the box has besides is over
abbrev pub Alikes : Table → List ℕ → ℕ → List Process → List script.Process → Type 0
Alikes t counts i ps [] = AllOver ps
Alikes t counts i [] (q ∷ qs) = ⊥
Alikes t counts i (p ∷ ps) (q ∷ qs) = Alike t i counts p q × Alikes t counts (suc i) ps qs

over_idle : (ps : List Process) → AllOver ps → any ready ps ≡ false
over_idle [] h = refl
over_idle (p ∷ ps) h = rw h.0 (over_idle ps h.1)

over_lowest : (ps : List Process) → AllOver ps → length ps ≤ lowest ps
unfolding lowest
over_lowest [] h = omega arith
over_lowest (p ∷ ps) h = rw h.0 (omega (arith, over_lowest ps h.1))

module _ (t : Table) (counts : List ℕ) where
  -- ---- busy alike

  pub busy_alike : (i : ℕ) (ps : List Process) (qs : List script.Process) → Alikes t counts i ps qs → any ready ps ≡ any script.ready qs
  busy_alike i ps [] h = over_idle ps h
  busy_alike i [] (q ∷ qs) h = absurd h
  busy_alike i (p ∷ ps) (q ∷ qs) h =
      rw (related_ready t.cells t.pool (first_of t.heads i) (end_of t.heads i) counts p q h.0, busy_alike (suc i) ps qs h.1)

  -- ---- the same one is the lowest that is ready

  pub lowest_alike : (i : ℕ) (ps : List Process) (qs : List script.Process) → Alikes t counts i ps qs → any script.ready qs ≡ true → lowest ps ≡ neighbours.lowest qs
  unfolding lowest neighbours.lowest
  lowest_alike i ps [] h e = true_is_false (sym e)
  lowest_alike i [] (q ∷ qs) h e = absurd h
  lowest_alike i (p ∷ ps) (q ∷ qs) h e = go (script.ready q) (related_ready t.cells t.pool (first_of t.heads i) (end_of t.heads i) counts p q h.0) (lowest_alike (suc i) ps qs h.1) e
    where
      go : (u : Bool) → ready p ≡ u → (any script.ready qs ≡ true → lowest ps ≡ neighbours.lowest qs) → (u || any script.ready qs) ≡ true →
          cond (ready p) 0 (suc (lowest ps)) ≡ cond u 0 (suc (neighbours.lowest qs))
      go true d f g = rw d
      go false d f g = rw d (ap suc (f g))

  -- ---- each by itself

  pub alike_at : (i : ℕ) (ps : List Process) (qs : List script.Process) → Alikes t counts i ps qs → (k : ℕ) → k < length qs → Alike t (i + k) counts (get_or ps k nobody) (get_or qs k (at_first []))
  alike_at i ps [] h k l = absurd (omega arith)
  alike_at i [] (q ∷ qs) h k l = absurd h
  alike_at i (p ∷ ps) (q ∷ qs) h zero l = let z : i + 0 ≡ i = omega arith in rw z h.0
  alike_at i (p ∷ ps) (q ∷ qs) h (suc k) l = let z : i + suc k ≡ suc i + k = omega arith in rw z (alike_at (suc i) ps qs h.1 k (omega arith))

  -- ---- an event

  module _ (f : ℕ → ℕ → Wait → Wait) (g : script.Wait → script.Wait) (over : (i end : ℕ) → f i end Over ≡ Over)
      (keeps : (j i : ℕ) (w : Wait) (v : script.Wait) → Waits t.pool (from t.cells t.pool (end_of t.heads j) i) w v →
      Waits t.pool (from t.cells t.pool (end_of t.heads j) i) (f i (end_of t.heads j) w) (g v)) where
    abbrev on_process : Process → Process
    on_process p = with_wait p (f p.place p.end p.wait)

    over_event : (ps : List Process) → AllOver ps → AllOver (map on_process ps)
    over_event [] h = tt
    over_event (p ∷ ps) h = (rw h.0 (over p.place p.end), over_event ps h.1)

    pub event_alike : (i : ℕ) (ps : List Process) (qs : List script.Process) → Alikes t counts i ps qs → Alikes t counts i (map on_process ps) (map (waiting g) qs)
    event_alike i ps [] h = over_event ps h
    event_alike i [] (q ∷ qs) h = absurd h
    event_alike i (p ∷ ps) (q ∷ qs) h =
        (related_event t.cells t.pool (first_of t.heads i) (end_of t.heads i) counts f g (keeps i) p q h.0, event_alike (suc i) ps qs h.1)

  -- ---- other counts

  abbrev Keep : List ℕ → ℕ → Type 0
  Keep others j = (p : Process) (q : script.Process) → Alike t j counts p q → Alike t j others p q

  counts_alike : (others : List ℕ) (i : ℕ) (ps : List Process) (qs : List script.Process) → ((j : ℕ) → i ≤ j → Keep others j) → Alikes t counts i ps qs → Alikes t others i ps qs
  counts_alike others i ps [] keep h = h
  counts_alike others i [] (q ∷ qs) keep h = h
  counts_alike others i (p ∷ ps) (q ∷ qs) keep h = (keep i (omega arith) p q h.0, counts_alike others (suc i) ps qs (λ j l. keep j (omega arith)) h.1)

  -- ---- the turn

  -- the lowest that is ready, `low` after number i
  pub record One (b : Box) (i : ℕ) (ps : List Process) (qs : List script.Process) (low : ℕ) : Type 0 where
    pub process : script.Process
    pub there : low < length ps
    pub alike : Alike t (i + low) counts (get_or ps low nobody) process
    pub put : script.Process → List script.Process
    pub turns : (s : Statement) (ss : List Statement) → next process ≡ statement s ss →
        turn b qs ≡ did (put (does b process ss s).process) (does b process ss s).paused (does b process ss s).says (does b process ss s).bytes
    pub placed : (others : List ℕ) → ((j : ℕ) → (j ≡ i + low → ⊥) → Keep others j) → (p : Process) (q : script.Process) → Alike t (i + low) others p q →
        Alikes t others i (set ps low p) (put q)

  pub data Turned (b : Box) (i : ℕ) (ps : List Process) (qs : List script.Process) : Type 0 where
    quiet : length ps ≤ lowest ps → turn b qs ≡ none → Turned b i ps qs
    one : (low : ℕ) → lowest ps ≡ low → One b i ps qs low → Turned b i ps qs

  takes_idle : (b : Box) (q : script.Process) (qs : List script.Process) (n : Next) (rest : Turn) → is_statement n ≡ false → takes b q qs n rest ≡ later q rest
  unfolding takes is_statement
  takes_idle b q qs idle rest e = refl
  takes_idle b q qs (statement s ss) rest e = true_is_false e

  pub turned : (b : Box) (i : ℕ) (ps : List Process) (qs : List script.Process) → Alikes t counts i ps qs → Turned b i ps qs
  unfolding lowest turn takes later
  turned b i ps [] h = quiet (over_lowest ps h) refl
  turned b i [] (q ∷ qs) h = absurd h
  turned b i (p ∷ ps) (q ∷ qs) h = go (ready p) refl (turned b (suc i) ps qs h.1)
    where
      same : ready p ≡ script.ready q
      same = related_ready t.cells t.pool (first_of t.heads i) (end_of t.heads i) counts p q h.0

      go : (u : Bool) → ready p ≡ u → Turned b (suc i) ps qs → Turned b i (p ∷ ps) (q ∷ qs)
      go true e rest =
          let z : i + 0 ≡ i = omega arith in
          one 0 (rw e) (record {
            process = q;
            there = omega arith;
            alike = rw z h.0;
            put = λ x. x ∷ qs;
            turns = λ s ss n. rw n;
            placed = λ others keep p' q' r. (rw z at r, counts_alike others (suc i) ps qs (λ j l. keep j (λ d. omega arith)) h.1);
          })
      go false e (quiet l n) = quiet (rw e (omega arith)) (takes_idle b q qs (next q) (turn b qs) (sym same ∙ e) ∙ rw n)
      go false e (one low d o) =
          let z : suc i + low ≡ i + suc low = omega arith in
          one (suc low) (rw (e, d)) (record {
            process = o.process;
            there = omega (arith, o.there);
            alike = rw (← z) o.alike;
            put = λ x. q ∷ o.put x;
            turns = λ s ss n. takes_idle b q qs (next q) (turn b qs) (sym same ∙ e) ∙ rw (o.turns s ss n);
            placed = λ others keep p' q' r. (keep i (λ d. omega arith) p q h.0, o.placed others (λ j d. keep j (λ c. d (omega arith))) p' q' (rw z r));
          })
