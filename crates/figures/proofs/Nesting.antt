-- Marks nest exactly when they are those of a fragment at most eight loops deep. Assumes nothing.
use mathlib.Core.Path.{◌≡◌, refl, ap, sym, ◌∙◌}
use mathlib.Core.Bool.{Bool, true, false, cond}
use mathlib.Core.List.{List, [], ◌∷◌, ◌++◌, append-nil, append_assoc}
use Prim.Native.Nat.{ℕ, suc, ◌+◌, max, ◌≤◌}
use native.Mathlib.Nat.{add-zero}
use native.Mathlib.Decide.{dec_le, dec_lt}
use native.Mathlib.Omega.{arith}
use lib.Dec.{leb}
use borrow.Author.Tests.{leb-true, lt-ltb, le-ltb, le-leb, lt-leb}
use Rattle.figures.specs.Fragment.{Fragment, stop, other, rest, loop}
use Rattle.figures.specs.Inside.Fragments.{depth, marks}
use Rattle.figures.specs.Flat.{Mark, closes, fragment, deepest, marks_nest}
use Rattle.figures.proofs.Reading.{marks_fragment}

-- a loop fits where its body and what follows it do
loop_fits : (b p o : ℕ) (t : Bool) →
    cond (leb (b + suc o) deepest) (cond (leb (p + o) deepest) t false) false ≡ cond (leb (max (suc b) p + o) deepest) t false
loop_fits b p o t = elim (dec_le (b + suc o) deepest) [
  | yes x ↦ elim (dec_le (p + o) deepest) [
    | yes y ↦ simp (le-leb (b + suc o) deepest x, le-leb (p + o) deepest y, le-leb (max (suc b) p + o) deepest (omega arith))
    | no y ↦ simp (le-leb (b + suc o) deepest x, lt-leb (p + o) deepest (omega arith), lt-leb (max (suc b) p + o) deepest (omega arith))
  ]
  | no x ↦ simp (lt-leb (b + suc o) deepest (omega arith), lt-leb (max (suc b) p + o) deepest (omega arith))
]

-- with o loops open the marks of a fragment that fits may be passed over
pub nests_marks : (p : Fragment) (ms : List Mark) (o : ℕ) → o ≤ deepest → marks_nest o (marks p ++ ms) ≡ cond (leb (depth p + o) deepest) (marks_nest o ms) false
unfolding marks_nest marks depth
nests_marks stop ms o h = rw (le-leb (0 + o) deepest (omega arith)) refl
nests_marks (other p) ms o h = nests_marks p ms o h
nests_marks (rest p) ms o h = nests_marks p ms o h
nests_marks (loop n b p) ms o h = elim (dec_lt o deepest) [
  | yes y ↦
      rw (lt-ltb o deepest y, append_assoc (marks b), nests_marks b (closes ∷ (marks p ++ ms)) (suc o) y, nests_marks p ms o h) (loop_fits (depth b) (depth p) o (marks_nest o ms))
  | no y ↦ simp (le-ltb o deepest (omega arith), lt-leb (max (suc (depth b)) (depth p) + o) deepest (omega arith))
]

cond_id : (t : Bool) → cond t true false ≡ t
cond_id true = refl
cond_id false = refl

pub nests_depth : (p : Fragment) → marks_nest 0 (marks p) ≡ leb (depth p) deepest
unfolding marks_nest
nests_depth p = ap (marks_nest 0) (sym (append-nil (marks p))) ∙ nests_marks p [] 0 (omega arith) ∙ rw (add-zero (depth p)) (cond_id (leb (depth p) deepest))

module _ (ms : List Mark) (h : marks_nest 0 ms ≡ true) where
  pub fragment_depth : depth (fragment ms) ≤ deepest
  fragment_depth = leb-true (depth (fragment ms)) deepest (sym (nests_depth (fragment ms)) ∙ ap (marks_nest 0) (marks_fragment ms h) ∙ h)

  -- marks that nest, and others after them
  pub nests_append : (ns : List Mark) → marks_nest 0 (ms ++ ns) ≡ marks_nest 0 ns
  nests_append ns =
      ap (λ l. marks_nest 0 (l ++ ns)) (sym (marks_fragment ms h)) ∙ nests_marks (fragment ms) ns 0 (omega arith)
      ∙ rw (le-leb (depth (fragment ms) + 0) deepest (omega (arith, fragment_depth))) refl
