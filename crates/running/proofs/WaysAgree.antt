-- The ways on from a statement: to a place, to a rest, into a loop and out of it; the box and the script go alike. Assumes nothing.
use mathlib.Core.Path.{◌≡◌, refl, sym, ap, subst, ◌∙◌}
use mathlib.Core.Bool.{Bool, true, false, cond}
use mathlib.Core.List.{List, ◌∷◌, map}
use Prim.Native.Nat.{ℕ, zero, suc, ◌+◌, ◌-◌, ◌≤◌}
use native.Mathlib.Omega.{arith}
use lib.ListN.{length, get_or, set}
use lib.Dec.{ltb, leb, eqb}
use borrow.Author.Tests.{ltb-true, le-leb, eq-eqb, ne_eqb}
use Rattle.reader.proofs.Tests.{true_is_false}
use Rattle.language.specs.Limits.{loop_limit}
use Rattle.language.specs.Script.{Statement}
use Rattle.process.specs.declared.Wait.{Wait}
use Rattle.process.specs.declared.Process.{Process}
use Rattle.process.specs.Waiting.{awake}
use Rattle.statement.specs.Ways.{astray, moved_to, goes}
use Rattle.statement.specs.Loops.{opened, back_to, pass, closed}
use Rattle.statement.specs.Moving.{goes_on, rests}
use Rattle.bounded.proofs.Ahead.{opens_of}
use Rattle.bounded.proofs.Opens.{opens_more, opens_less}
use Rattle.running.specs.Running as script
use Rattle.running.specs.Running.{for_nothing, on, in_loops}
use Rattle.running.proofs.From.{from}
use Rattle.running.proofs.Alike.{Waits, Related, loop_of, awake_waits}

module _ (cells pool : List ℕ) (first end : ℕ) (inside : end ≤ length cells) (counts : List ℕ) (p : Process) (q : script.Process)
    (r : Related cells pool first end counts p q) (few : p.depth ≤ loop_limit) (left : length p.left ≡ loop_limit) (back : length p.back ≡ loop_limit) where
  abbrev i : ℕ
  i = p.place

  abbrev to : ℕ → List Statement
  to j = from cells pool end j

  abbrev Alike : Process → script.Process → Type 0
  Alike = Related cells pool first end counts

  -- to a place, with other loops and a wait
  pub moves : (j d : ℕ) (ls bs : List ℕ) (w : Wait) (lps : List script.Loop) (v : script.Wait) → lps ≡ map (loop_of cells pool end) (opens_of d ls bs) →
      Waits pool (to j) w v →
      Alike (moved_to p j d ls bs w).process (record { coming = to j; loops = lps; wait = v; counts = q.counts })
  moves j d ls bs w lps v e h = record { ends = r.ends; coming = refl; loops = e; wait = h; counted = r.counted }

  -- and ready there, or over
  goes_on_lem : (j d : ℕ) (ls bs : List ℕ) (lps : List script.Loop) → lps ≡ map (loop_of cells pool end) (opens_of d ls bs) →
      Alike (goes p j d ls bs).process (record { coming = to j; loops = lps; wait = for_nothing; counts = q.counts })
  goes_on_lem j d ls bs lps e =
      moves j d ls bs (awake j p.end) lps for_nothing e (rw r.ends (awake_waits cells pool end (inside) j))

  pub passes_on : Alike (goes_on p).process (on q (to (i + 1)) for_nothing)
  passes_on = goes_on_lem (i + 1) p.depth p.left p.back q.loops r.loops

  pub rests_on : (w : Wait) (v : script.Wait) → Waits pool (to (i + 1)) w v → Alike (rests p w).process (on q (to (i + 1)) v)
  rests_on w v h = moves (i + 1) p.depth p.left p.back w q.loops v r.loops h

  pub either : (t : Bool) (w : Wait) (v : script.Wait) → Waits pool (to (i + 1)) w v → Alike (cond t (goes_on p) (rests p w)).process (on q (to (i + 1)) (cond t for_nothing v))
  either true w v h = passes_on
  either false w v h = rests_on w v h

  -- ---- loops

  pub opens_on : (n : ℕ) → (opened p (i + 1) n).found ≡ true → Alike (opened p (i + 1) n).process (in_loops q (to (i + 1)) (record { left = n; body = to (i + 1) } ∷ q.loops))
  unfolding opened
  opens_on n = go (ltb p.depth loop_limit) refl
    where
      go : (t : Bool) → ltb p.depth loop_limit ≡ t →
          (cond t (goes p (i + 1) (p.depth + 1) (set p.left p.depth n) (set p.back p.depth (i + 1))) (astray p)).found ≡ true →
          Alike (cond t (goes p (i + 1) (p.depth + 1) (set p.left p.depth n) (set p.back p.depth (i + 1))) (astray p)).process
          (in_loops q (to (i + 1)) (record { left = n; body = to (i + 1) } ∷ q.loops))
      go true e f =
          let lt = ltb-true p.depth loop_limit e in
          goes_on_lem (i + 1) (p.depth + 1) (set p.left p.depth n) (set p.back p.depth (i + 1)) (record { left = n; body = to (i + 1) } ∷ q.loops)
          (rw (opens_more p.depth n (i + 1) p.left p.back (omega arith) (omega arith), r.loops))
      go false e f = true_is_false (sym f)

  again_on : (l : ℕ) (ls : List ℕ) (lps : List script.Loop) → lps ≡ map (loop_of cells pool end) (opens_of p.depth ls p.back) → (back_to p l ls).found ≡ true →
      Alike (back_to p l ls).process (in_loops q (to l) lps)
  unfolding back_to
  again_on l ls lps e = go (ltb l p.end)
    where
      go : (t : Bool) → (cond t (goes p l p.depth ls p.back) (astray p)).found ≡ true →
          Alike (cond t (goes p l p.depth ls p.back) (astray p)).process (in_loops q (to l) lps)
      go true f = goes_on_lem l p.depth ls p.back lps e
      go false f = true_is_false (sym f)

  -- ---- END

  module _ (d : ℕ) (e : p.depth ≡ suc d) where
    abbrev n : ℕ
    n = get_or p.left d 0

    abbrev body : ℕ
    body = get_or p.back d 0

    abbrev l : script.Loop
    l = record { left = n; body = to body }

    abbrev outer : List script.Loop
    outer = map (loop_of cells pool end) (opens_of d p.left p.back)

    pass_on : (pass p (i + 1) d body n).found ≡ true → Alike (pass p (i + 1) d body n).process (script.closed q (to (i + 1)) (l ∷ outer))
    unfolding pass script.closed opens_of
    pass_on = go (eqb n 0) (eqb n 1)
      where
        go : (t u : Bool) → (cond t (back_to p body p.left) (cond u (goes p (i + 1) d p.left p.back) (back_to p body (set p.left d (n - 1))))).found ≡ true →
            Alike (cond t (back_to p body p.left) (cond u (goes p (i + 1) d p.left p.back) (back_to p body (set p.left d (n - 1))))).process
            (cond t (in_loops q (to body) (l ∷ outer)) (cond u (in_loops q (to (i + 1)) outer) (in_loops q (to body) (record { left = n - 1; body = to body } ∷ outer))))
        go true u f = again_on body p.left (l ∷ outer) (rw e) f
        go false true f = goes_on_lem (i + 1) d p.left p.back outer refl
        go false false f =
            again_on body (set p.left d (n - 1)) (record { left = n - 1; body = to body } ∷ outer)
            (sym (ap (map (loop_of cells pool end))
            (ap (λ (x : ℕ). opens_of x (set p.left d (n - 1)) p.back) e ∙ opens_less d (n - 1) p.left p.back (omega (arith, e, few, left))))) f

  pub closes_on : (closed p (i + 1)).found ≡ true → Alike (closed p (i + 1)).process (script.closed q (to (i + 1)) q.loops)
  unfolding closed opens_of
  closes_on = go p.depth refl
    where
      go : (d : ℕ) → p.depth ≡ d → (closed p (i + 1)).found ≡ true → Alike (closed p (i + 1)).process (script.closed q (to (i + 1)) q.loops)
      go zero e f = true_is_false (sym (rw (eq-eqb p.depth 0 e) at f))
      go (suc d) e f =
          let some : eqb p.depth 0 ≡ false = ne_eqb p.depth 0 (λ z. omega arith) in
          let less : leb p.depth loop_limit ≡ true = le-leb p.depth loop_limit few in
          let top : p.depth - 1 ≡ d = omega arith in
          let loops : q.loops ≡ l d e ∷ outer d e = r.loops ∙ rw e in
          subst (λ (ls : List script.Loop). Alike (closed p (i + 1)).process (script.closed q (to (i + 1)) ls)) (sym loops)
          (rw (some, less, top) (pass_on d e (rw (some, less, top) at f)))
