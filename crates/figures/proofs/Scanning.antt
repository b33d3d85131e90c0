-- A scan of marks from left to right, place by place: what the sum of figures keeps, and what each mark does to it. Assumes nothing.
use mathlib.Core.Path.{◌≡◌, refl, ap, sym, ◌∙◌}
use mathlib.Core.Bool.{false}
use mathlib.Core.List.{List, [], ◌∷◌, map}
use Prim.Native.Nat.{ℕ, ◌+◌, ◌-◌, ◌≤◌, ◌<◌}
use native.Mathlib.Nat.{le_refl}
use native.Mathlib.Numerals.{add-one}
use native.Mathlib.Omega.{arith}
use lib.ListN.{length, get_or, drop, length-drop, drop_of_length-le, length-map, get_or-map}
use lib.Seq.{drop-cons}
use borrow.Author.Tests.{lt-ltb, le-ltb, ne_eqb}
use Rattle.figures.specs.declared.Figures.{Figures}
use Rattle.figures.specs.Flat.{Mark, plain, sure_rest, opens, closes, beyond, mark_before, fragments, deepest, marks_nest}
use Rattle.figures.specs.Figures.{capped, join, joined_capped, empty, one_statement, one_rest, looped, figures}
use Rattle.figures.specs.Inside.Scan.{read_at, fragment_at, MarkAt, nests_after, Scanned}
use Rattle.figures.proofs.Capping.{joined_assoc}
use Rattle.figures.proofs.Gluing.{empty_left, looped_right}
use Rattle.figures.proofs.Counting.{nests_end, nests_opens, nests_closes}

module _ (ms : List Mark) (i : ℕ) where
  pub stands : (d : Mark) → i < length ms → MarkAt ms i (get_or ms i d)
  stands d h = drop-cons ms i d h ∙ rw (add-one i)

  pub stands_inside : {m : Mark} → MarkAt ms i m → i < length ms
  stands_inside s = omega (arith, length-drop i ms, ap length s)

  pub read_past : length ms ≤ i → read_at ms i ≡ []
  unfolding fragments
  read_past h = ap fragments (drop_of_length-le ms h)

  pub read_mark : {m : Mark} → MarkAt ms i m → read_at ms i ≡ mark_before m (read_at ms (i + 1))
  unfolding fragments
  read_mark s = ap fragments s

-- the marks of a list, each element having one
pub stands_map : {A : Type 0} (f : A → Mark) (xs : List A) (i : ℕ) (d : A) → i < length xs → MarkAt (map f xs) i (f (get_or xs i d))
stands_map f xs i d h = rw (← get_or-map f xs i d) (stands (map f xs) i (f d) (omega (arith, length-map xs f)))

-- What the scan keeps, o loops being open: the sum joined to the figures of what is left of the fragment is the figures of the whole,
-- and the rest nests just when the whole does.
pub record Going (ms : List Mark) (at o : ℕ) (sum : Figures) (i : ℕ) : Type 0 where
  pub adds : joined_capped sum (figures (fragment_at ms i)) ≡ figures (fragment_at ms at)
  pub neutral : joined_capped sum empty ≡ sum
  pub nests : marks_nest o (drop at ms) ≡ marks_nest o (drop i ms)
  pub behind : beyond (read_at ms i) ≡ beyond (read_at ms at)
  pub low : at ≤ i
  pub high : i ≤ length ms

-- the empty fragment after a join, where it changes nothing after the second part
neutral_join : (a b : Figures) → joined_capped b empty ≡ b → joined_capped (joined_capped a b) empty ≡ joined_capped a b
neutral_join a b h = joined_assoc a b empty ∙ ap (joined_capped a) h

module _ (ms : List Mark) (at o : ℕ) where
  pub scan_starts : at ≤ length ms → Going ms at o empty at
  scan_starts h = record {
    adds = empty_left (fragment_at ms at);
    neutral = unfold capped join in refl;
    nests = refl;
    behind = refl;
    low = le_refl at;
    high = h;
  }

  -- what a scan of the fragment that starts at `at` finds
  abbrev Ends : Figures → ℕ → Type 0
  Ends found next = Scanned ms at (figures (fragment_at ms at)) (marks_nest o (drop at ms)) (nests_after o) found next

  module _ (sum : Figures) (i : ℕ) (g : Going ms at o sum i) where
    -- the end of the marks: no loop may be open
    module _ (h : length ms ≤ i) where
      nests_past : marks_nest o (drop at ms) ≡ marks_nest o []
      nests_past = g.nests ∙ ap (marks_nest o) (drop_of_length-le ms h)

      pub scan_past : o ≡ 0 → Ends sum i
      unfolding figures marks_nest
      scan_past z =
          let e = read_past ms i h in
          record { exact = sym g.neutral ∙ (rw e at g.adds); nests = nests_past ∙ rw z; behind = e ∙ (rw e at g.behind); low = g.low; high = g.high }

      pub scan_open : 0 < o → marks_nest o (drop at ms) ≡ false
      scan_open z = nests_past ∙ nests_end o ∙ ne_eqb o 0 (omega arith)

    -- what stands at the place i
    nests_mark : {m : Mark} → MarkAt ms i m → marks_nest o (drop at ms) ≡ marks_nest o (m ∷ drop (i + 1) ms)
    nests_mark s = g.nests ∙ ap (marks_nest o) s

    -- END: a loop must be open
    module _ (s : MarkAt ms i closes) where
      pub scan_closes : 0 < o → Ends sum (i + 1)
      unfolding figures mark_before
      scan_closes z =
          let e = read_mark ms i s in
          record {
            exact = sym g.neutral ∙ (rw e at g.adds);
            nests = nests_mark s ∙ nests_closes o (drop (i + 1) ms) ∙ rw (lt-ltb 0 o z);
            behind = rw e at g.behind;
            low = omega (arith, g.low);
            high = omega (arith, stands_inside ms i s);
          }

      pub scan_lone : o ≡ 0 → marks_nest o (drop at ms) ≡ false
      unfolding marks_nest
      scan_lone z = nests_mark s ∙ rw z

    -- a statement that is no sure rest, and a sure rest
    pub scan_plain : MarkAt ms i plain → Going ms at o (joined_capped sum one_statement) (i + 1)
    unfolding figures mark_before marks_nest
    scan_plain s =
        let e = read_mark ms i s in
        record {
          adds = joined_assoc sum one_statement (figures (fragment_at ms (i + 1))) ∙ (rw e at g.adds);
          neutral = neutral_join sum one_statement (unfold capped join in refl);
          nests = nests_mark s;
          behind = rw e at g.behind;
          low = omega (arith, g.low);
          high = omega (arith, stands_inside ms i s);
        }

    pub scan_rest : MarkAt ms i sure_rest → Going ms at o (joined_capped sum one_rest) (i + 1)
    unfolding figures mark_before marks_nest
    scan_rest s =
        let e = read_mark ms i s in
        record {
          adds = joined_assoc sum one_rest (figures (fragment_at ms (i + 1))) ∙ (rw e at g.adds);
          neutral = neutral_join sum one_rest (unfold capped join in refl);
          nests = nests_mark s;
          behind = rw e at g.behind;
          low = omega (arith, g.low);
          high = omega (arith, stands_inside ms i s);
        }

    module _ (n : ℕ) (s : MarkAt ms i (opens n)) where
      -- LOOP: the scan goes on after its END
      pub scan_opens : (found : Figures) (next : ℕ)
          → Scanned ms (i + 1) (looped n (figures (fragment_at ms (i + 1)))) (marks_nest o (opens n ∷ drop (i + 1) ms)) (marks_nest o) found next
          → Going ms at o (joined_capped (joined_capped sum one_statement) found) next
      unfolding figures mark_before
      scan_opens found next r =
          let e = read_mark ms i s in
          let b = looped n (figures (fragment_at ms (i + 1))) in
          let q = figures (fragment_at ms next) in
          record {
            adds = rw r.exact (joined_assoc (joined_capped sum one_statement) b q ∙ joined_assoc sum one_statement (joined_capped b q) ∙ rw r.behind (rw e at g.adds));
            neutral = rw r.exact (neutral_join (joined_capped sum one_statement) b (looped_right n (fragment_at ms (i + 1))));
            nests = nests_mark s ∙ r.nests;
            behind = rw r.behind (rw e at g.behind);
            low = omega (arith, g.low, r.low);
            high = r.high;
          }

      -- or does not, where its body strays
      pub scan_strays : marks_nest o (opens n ∷ drop (i + 1) ms) ≡ false → marks_nest o (drop at ms) ≡ false
      scan_strays h = nests_mark s ∙ h

-- LOOP n
module _ (n o : ℕ) where
  -- "ninth open loop"
  pub nests_ninth : (ms : List Mark) → deepest ≤ o → marks_nest o (opens n ∷ ms) ≡ false
  nests_ninth ms h = nests_opens n o ms ∙ rw (le-ltb o deepest h)

  module _ (h : o < deepest) where
    pub nests_enters : (ms : List Mark) → marks_nest o (opens n ∷ ms) ≡ marks_nest (o + 1) ms
    nests_enters ms = nests_opens n o ms ∙ rw (lt-ltb o deepest h)

    -- its passes, where its body was scanned
    pub scan_passes : {ms : List Mark} {at next : ℕ} {f found : Figures} → Scanned ms at f (marks_nest (o + 1) (drop at ms)) (nests_after (o + 1)) found next
        → Scanned ms at (looped n f) (marks_nest o (opens n ∷ drop at ms)) (marks_nest o) (looped n found) next
    scan_passes {ms} {at} s =
        let e : o + 1 - 1 ≡ o = omega arith in
        record {
          exact = ap (looped n) s.exact;
          nests = nests_enters (drop at ms) ∙ s.nests ∙ rw (lt-ltb 0 (o + 1) (omega arith), e);
          behind = s.behind;
          low = s.low;
          high = s.high;
        }
