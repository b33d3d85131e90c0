-- What a process has ahead of it, written out, and how a pass of a loop is entered. Assumes nothing.
use mathlib.Core.Path.{◌≡◌}
use mathlib.Core.List.{List, [], ◌∷◌, ◌++◌, append_assoc}
use Prim.Native.Nat.{ℕ, zero, suc, ◌≤◌}
use native.Mathlib.Nat.{le_trans}
use native.Mathlib.Omega.{arith}
use lib.ListN.{get_or}
use Rattle.figures.specs.Fragment.{Fragment}
use Rattle.figures.specs.Flat.{Mark, here, beyond}
use Rattle.figures.specs.Inside.Scan.{fragment_at}
use Rattle.figures.specs.Written.{Done, busy, sure, cut, repeated_times, repeated, written, run}
use Rattle.figures.proofs.Growing.{Cut, finish, cuts, keeps, cut_append, cut_times, cut_written, cut_run}

-- An open loop: the place where its body begins, and the passes left, the one under way among them; 0 is forever.
pub record Open : Type 0 where
  pub back : ℕ
  pub left : ℕ

-- what the arrays of a process stand for: the first d of each are the open loops, the last of them the innermost, which comes first here
unfoldable pub opens_of : ℕ → List ℕ → List ℕ → List Open
opens_of zero left back = []
opens_of (suc d) left back = record { back = get_or back d 0; left = get_or left d 0 } ∷ opens_of d left back

-- the passes that follow the one under way
unfoldable pub more : ℕ → ℕ → List Done → List Done
more m zero xs = repeated_times m xs ++ (cut ∷ [])
more m (suc l) xs = repeated_times l xs

-- a pass of the loop whose body is p: the body and its END
abbrev pub whole : ℕ → Fragment → List Done
whole m p = written m p ++ (busy ∷ [])

-- What follows the fragment that the place stands in, bs being what is read after it: for each open loop its END, the passes left, and the
-- fragment after it. Each forever loop has m more passes.
unfoldable pub onward : List Mark → ℕ → List Fragment → List Open → List Done
onward ms m bs [] = []
onward ms m bs (o ∷ os) =
    busy ∷ (more m o.left (whole m (fragment_at ms o.back)) ++ (written m (here bs) ++ onward ms m (beyond bs) os))

-- what is ahead at a place where a stack st is read
abbrev pub ahead : List Mark → ℕ → List Fragment → List Open → List Done
ahead ms m st os = written m (here st) ++ onward ms m (beyond st) os

-- fewer statements before a list make no longer run
pub run_less : {n o : ℕ} (xs : List Done) → n ≤ o → run n xs ≤ run o xs
unfolding run
run_less [] h = h
run_less (busy ∷ xs) h = run_less xs (omega arith)
run_less (sure ∷ xs) h = omega arith
run_less (cut ∷ xs) h = h

regroup : (ws ys zs : List Done) → ((ws ++ (busy ∷ [])) ++ ys) ++ zs ≡ ws ++ (busy ∷ (ys ++ zs))
regroup ws ys zs = simp append_assoc

-- m + 1 passes of a loop and a cut, the loops in its body written out m times or once more
longer : (m : ℕ) (b : Fragment) (ys zs : List Done) → Cut (repeated_times (suc m) (whole m b) ++ (cut ∷ ys)) (repeated_times (suc m) (whole (suc m) b) ++ (cut ∷ zs))
longer m b ys zs = cut_append (cut_times (cut_append (cut_written m (suc m) (omega arith) b) (keeps finish)) (suc m)) cuts

-- Into a pass: where l passes are ahead and then zs, the first of them is the body, its END, and the passes that follow.
-- A forever loop that is written out m + 1 times holds every run of one pass and m more.
pub enter : (k n l : ℕ) (b : Fragment) (zs : ℕ → List Done) → ((m : ℕ) → run n (repeated m l (whole m b) ++ zs m) ≤ k) →
    (m : ℕ) → run n (written m b ++ (busy ∷ (more m l (whole m b) ++ zs m))) ≤ k
unfolding repeated more repeated_times
enter k n zero b zs h m =
    rw (append_assoc (repeated_times m (whole m b)), ← regroup (written m b) (repeated_times m (whole m b)) (cut ∷ zs m))
    (le_trans (cut_run n (longer m b (zs m) (zs (suc m)))) (rw (append_assoc (repeated_times (suc m) (whole (suc m) b))) at (h (suc m))))
enter k n (suc l) b zs h m = rw (← regroup (written m b) (repeated_times l (whole m b)) (zs m)) (h m)
