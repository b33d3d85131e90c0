-- A statement of a process within its bounds leaves it there, by the mark at its place: THE LAW of a step. Assumes nothing.
use mathlib.Core.Path.{◌≡◌, refl, sym, ap, ◌∙◌}
use mathlib.Core.Bool.{Bool, true, false, cond}
use mathlib.Core.List.{List, ◌∷◌, ◌++◌, append_assoc}
use Prim.Native.Nat.{ℕ, zero, suc, ◌+◌, ◌≤◌, ◌<◌}
use native.Mathlib.Nat.{le_trans}
use native.Mathlib.Numerals.{sub-one}
use native.Mathlib.Omega.{arith}
use lib.Dec.{ltb}
use lib.ListN.{length, get_or, set, drop, length-set}
use borrow.Author.Tests.{ltb-true, lt-ltb, le-leb, ne_eqb}
use Rattle.reader.proofs.Tests.{true_is_false}
use Rattle.figures.specs.Fragment.{Fragment}
use Rattle.figures.specs.Flat.{Mark, plain, sure_rest, opens, closes, here, beyond, mark_before, deepest, marks_nest}
use Rattle.figures.specs.Inside.Scan.{read_at, fragment_at, MarkAt}
use Rattle.figures.specs.Written.{repeated_times, repeated, written, run}
use Rattle.figures.proofs.Growing.{run_at_least}
use Rattle.figures.proofs.Scanning.{stands_inside, read_mark}
use Rattle.language.specs.Limits.{loop_limit}
use Rattle.process.specs.declared.Wait.{Wait}
use Rattle.process.specs.declared.Process.{Process}
use Rattle.process.specs.Waiting.{ready_wait, ready, wait_right}
use Rattle.statement.specs.Loops.{opened, pass, closed}
use Rattle.statement.specs.Moving.{goes_on, rests}
use Rattle.bounded.proofs.Ahead.{Open, opens_of, more, whole, onward, ahead, run_less}
use Rattle.bounded.proofs.Held.{Back, Kept, Sits, resting, Held, Good}
use Rattle.bounded.proofs.Opens.{opens_length, opens_more, opens_less}
use Rattle.bounded.proofs.Ways.{goes_good, rests_good, enter_good, again_good}

both_sides : (t b : Bool) → cond t b false ≡ true → (t ≡ true) × (b ≡ true)
both_sides true b e = (refl, e)
both_sides false b e = true_is_false (sym e)

module _ (ms : List Mark) (first k n : ℕ) where
  -- ---- what holds before the statement, by the mark at the place

  module _ (p : Process) (h : Held ms first k n p) (r : ready p ≡ true) where
    abbrev pub loops : List Open
    loops = opens_of p.depth p.left p.back

    pub counts : suc n ≤ suc k
    counts = omega (arith, run_at_least n (ahead ms 0 (read_at ms p.place) loops), h.fine.going r 0)

    module _ {m : Mark} (s : MarkAt ms p.place m) where
      nested_here : marks_nest (length loops) (m ∷ drop (p.place + 1) ms) ≡ true
      nested_here = ap (marks_nest (length loops)) (sym s) ∙ h.fine.sits.nested

      kept_here : Kept ms first (beyond (mark_before m (read_at ms (p.place + 1)))) loops
      kept_here = rw (read_mark ms p.place s) at h.fine.sits.kept

      ahead_here : (j : ℕ) → run n (ahead ms j (mark_before m (read_at ms (p.place + 1))) loops) ≤ k
      ahead_here j = rw (read_mark ms p.place s) at (h.fine.going r j)

      -- the next place, with some loops open
      sits_next : (os : List Open) → length os ≤ deepest → marks_nest (length os) (drop (p.place + 1) ms) ≡ true → Kept ms first (beyond (read_at ms (p.place + 1))) os →
          Sits ms first (p.place + 1) os
      sits_next os f e kp =
          record { nested = e; few = f; low = omega (arith, h.fine.sits.low); high = omega (arith, stands_inside ms p.place s); kept = kp }

    -- ---- a statement that is no sure rest: on to the next, or a rest

    module _ (s : MarkAt ms p.place plain) where
      plain_sits : Sits ms first (p.place + 1) loops
      unfolding marks_nest mark_before
      plain_sits = sits_next s loops h.fine.sits.few (nested_here s) (kept_here s)

      plain_ahead : (j : ℕ) → run (suc n) (ahead ms j (read_at ms (p.place + 1)) loops) ≤ k
      unfolding mark_before written run
      plain_ahead j = ahead_here s j

      pub passes_good : Good ms first k (suc n) (goes_on p)
      passes_good = goes_good ms first k p h.ends (suc n) (p.place + 1) p.depth p.left p.back loops refl h.left h.back counts plain_sits plain_ahead

      pub waits_good : (w : Wait) → resting w ≡ true → wait_right w ≡ true → Good ms first k (suc n) (rests p w)
      waits_good w e q =
          rests_good ms first k p h.ends (suc n) (p.place + 1) w e q h.left h.back counts (omega (arith, h.fine.sits.low)) plain_sits
          (λ j. le_trans (run_less (ahead ms j (read_at ms (p.place + 1)) loops) (omega arith)) (plain_ahead j))

    -- ---- a sure rest

    module _ (s : MarkAt ms p.place sure_rest) where
      pub sure_sits : Sits ms first (p.place + 1) loops
      unfolding marks_nest mark_before
      sure_sits = sits_next s loops h.fine.sits.few (nested_here s) (kept_here s)

      pub sure_ahead : (j : ℕ) → run 0 (ahead ms j (read_at ms (p.place + 1)) loops) ≤ k
      unfolding mark_before written run
      sure_ahead j = omega (arith, ahead_here s j)

      pub rest_good : (w : Wait) → resting w ≡ true → wait_right w ≡ true → Good ms first k (suc n) (rests p w)
      rest_good w e q =
          rests_good ms first k p h.ends (suc n) (p.place + 1) w e q h.left h.back counts (omega (arith, h.fine.sits.low)) sure_sits sure_ahead

    -- ---- LOOP

    pub opened_good : (a : ℕ) → MarkAt ms p.place (opens a) → Good ms first k (suc n) (opened p (p.place + 1) a)
    unfolding opened marks_nest mark_before written run
    opened_good a s =
        let i : ℕ = p.place + 1 in
        let st : List Fragment = read_at ms i in
        let both = both_sides (ltb (length loops) deepest) _ (nested_here s) in
        let f : length loops < deepest = ltb-true (length loops) deepest both.0 in
        let d : p.depth < loop_limit = omega (arith, opens_length p.depth p.left p.back) in
        let bk : Back ms first (beyond st) (length loops) i =
        record { behind = refl; nested = both.1; low = omega (arith, h.fine.sits.low); high = omega (arith, stands_inside ms p.place s) }
        in
        rw (lt-ltb p.depth loop_limit d)
        (enter_good ms first k (suc n) i a (beyond st) loops f bk (kept_here s) (λ j. rw (append_assoc (repeated j a (whole j (here st)))) at (ahead_here s j))
        p h.ends counts (p.depth + 1) (set p.left p.depth a) (set p.back p.depth i)
        (opens_more p.depth a i p.left p.back (omega (arith, h.left)) (omega (arith, h.back)))
        (length-set p.left p.depth a ∙ h.left) (length-set p.back p.depth i ∙ h.back))

  -- ---- END

  module _ (i e : ℕ) (w : Wait) (ls bs : List ℕ) where
    abbrev deep : ℕ → Process
    deep d = record { place = i; end = e; depth = d; left = ls; back = bs; wait = w }

    -- with d loops around the innermost open one, and l passes left of it
    pass_good : (d l : ℕ) → get_or ls d 0 ≡ l → d < loop_limit → length ls ≡ loop_limit → length bs ≡ loop_limit → e ≡ length ms → suc n ≤ suc k →
        Sits ms first (i + 1) (opens_of d ls bs) → Back ms first (read_at ms (i + 1)) (length (opens_of d ls bs)) (get_or bs d 0) →
        ((m : ℕ) → run (suc n) (more m l (whole m (fragment_at ms (get_or bs d 0))) ++ ahead ms m (read_at ms (i + 1)) (opens_of d ls bs)) ≤ k) →
        Good ms first k (suc n) (pass (deep (suc d)) (i + 1) d (get_or bs d 0) l)
    unfolding pass more repeated repeated_times opens_of
    pass_good d zero q dl lsl bsl en c s bk h =
        again_good ms first k (suc n) (get_or bs d 0) zero (read_at ms (i + 1)) (opens_of d ls bs) (omega (arith, opens_length d ls bs)) bk s.kept h
        (deep (suc d)) en c ls (rw q) lsl bsl
    pass_good d (suc zero) q dl lsl bsl en c s bk h = goes_good ms first k (deep (suc d)) en (suc n) (i + 1) d ls bs (opens_of d ls bs) refl lsl bsl c s h
    pass_good d (suc (suc l)) q dl lsl bsl en c s bk h =
        rw (ne_eqb (suc (suc l)) 0 (omega arith), ne_eqb (suc (suc l)) 1 (omega arith), sub-one (suc (suc l)))
        (again_good ms first k (suc n) (get_or bs d 0) (suc l) (read_at ms (i + 1)) (opens_of d ls bs) (omega (arith, opens_length d ls bs)) bk s.kept h
        (deep (suc d)) en c (set ls d (suc l)) (opens_less d (suc l) ls bs (omega arith)) (length-set ls d (suc l) ∙ lsl) bsl)

    close : (d : ℕ) → Held ms first k n (deep d) → ready_wait w ≡ true → MarkAt ms i closes → Good ms first k (suc n) (closed (deep d) (i + 1))
    unfolding closed marks_nest opens_of mark_before onward written run
    close zero h r s = true_is_false (sym (nested_here (deep zero) h r s))
    close (suc d) h r s =
        let kp = kept_here (deep (suc d)) h r s in
        let few : suc d ≤ loop_limit = omega (arith, opens_length d ls bs, h.fine.sits.few) in
        rw (ne_eqb (suc d) 0 (omega arith), le-leb (suc d) loop_limit few, sub-one (suc d))
        (pass_good d (get_or ls d 0) refl few h.left h.back h.ends (counts (deep (suc d)) h r)
        (sits_next (deep (suc d)) h r s (opens_of d ls bs) (omega (arith, opens_length d ls bs)) (nested_here (deep (suc d)) h r s) kp.1)
        kp.0
        (ahead_here (deep (suc d)) h r s))

  pub closed_good : (p : Process) → Held ms first k n p → ready p ≡ true → MarkAt ms p.place closes → Good ms first k (suc n) (closed p (p.place + 1))
  closed_good p h r s = close p.place p.end p.wait p.left p.back p.depth h r s
