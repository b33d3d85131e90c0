-- A longer writing out has no shorter run: each forever loop is cut later, and up to the cut the two lists agree. Assumes nothing.
use mathlib.Core.List.{List, [], ◌∷◌, ◌++◌, append_assoc}
use Prim.Native.Nat.{ℕ, zero, suc, ◌≤◌}
use native.Mathlib.Nat.{le_refl, le-max_left, le_of_suc-le-suc}
use native.Mathlib.Omega.{arith}
use Rattle.figures.specs.Fragment.{Fragment, stop, other, rest, loop}
use Rattle.figures.specs.Written.{Done, busy, sure, cut, repeated_times, repeated, written, run, longest_run}

-- the first form is the second, or is cut where the second may go on
pub data Cut : List Done → List Done → Type 0 where
  finish : Cut [] []
  cuts : {xs ys : List Done} → Cut (cut ∷ xs) ys
  keeps : {x : Done} {xs ys : List Done} → Cut xs ys → Cut (x ∷ xs) (x ∷ ys)

-- a cut comes through all that a form is made of
pub cut_append : {ps qs cs ds : List Done} → Cut ps qs → Cut cs ds → Cut (ps ++ cs) (qs ++ ds)
cut_append finish d = d
cut_append cuts d = cuts
cut_append (keeps c) d = keeps (cut_append c d)

pub cut_times : {ps qs : List Done} → Cut ps qs → (n : ℕ) → Cut (repeated_times n ps) (repeated_times n qs)
unfolding repeated_times
cut_times c zero = finish
cut_times c (suc n) = cut_append c (cut_times c n)

cut_ever : {ps qs : List Done} → Cut ps qs → (m n : ℕ) → m ≤ n → Cut (repeated_times m ps ++ (cut ∷ [])) (repeated_times n qs ++ (cut ∷ []))
unfolding repeated_times
cut_ever c zero n h = cuts
cut_ever c (suc m) zero h = absurd (omega arith)
cut_ever {ps} {qs} c (suc m) (suc n) h = rw (append_assoc ps, append_assoc qs) (cut_append c (cut_ever c m n (le_of_suc-le-suc h)))

cut_repeated : {ps qs : List Done} → Cut ps qs → (m n k : ℕ) → m ≤ n → Cut (repeated m k ps) (repeated n k qs)
unfolding repeated
cut_repeated c m n zero h = cut_ever c m n h
cut_repeated c m n (suc k) h = cut_times c (suc k)

pub cut_written : (m n : ℕ) → m ≤ n → (p : Fragment) → Cut (written m p) (written n p)
unfolding written
cut_written m n h stop = finish
cut_written m n h (other p) = keeps (cut_written m n h p)
cut_written m n h (rest p) = keeps (cut_written m n h p)
cut_written m n h (loop k b p) =
    keeps (cut_append (cut_repeated (cut_append (cut_written m n h b) (keeps finish)) m n k h) (cut_written m n h p))

-- and leaves no longer run
pub run_at_least : (k : ℕ) (xs : List Done) → k ≤ run k xs
unfolding run
run_at_least k [] = le_refl k
run_at_least k (busy ∷ xs) = omega (arith, run_at_least (suc k) xs)
run_at_least k (sure ∷ xs) = le-max_left k (run 0 xs)
run_at_least k (cut ∷ xs) = le_refl k

pub cut_run : {ps qs : List Done} (k : ℕ) → Cut ps qs → run k ps ≤ run k qs
unfolding run
cut_run k finish = le_refl k
cut_run {qs = ys} k cuts = run_at_least k ys
cut_run k (keeps {x = busy} c) = cut_run (suc k) c
cut_run k (keeps {x = sure} c) = omega (arith, cut_run 0 c)
cut_run k (keeps {x = cut} c) = le_refl k

pub longest_grows : (m n : ℕ) → m ≤ n → (p : Fragment) → longest_run (written m p) ≤ longest_run (written n p)
longest_grows m n h p = cut_run 0 (cut_written m n h p)
