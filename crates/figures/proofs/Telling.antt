-- Figures told of a written-out form: those of two forms end to end are joined. Assumes nothing.
use mathlib.Core.Path.{◌≡◌, refl, ap, sym, ◌∙◌}
use mathlib.Core.Bool.{Bool, true, false, cond}
use mathlib.Core.List.{List, [], ◌∷◌, ◌++◌, append-nil}
use Prim.Native.Nat.{ℕ, zero, suc, ◌+◌, max}
use native.Mathlib.Omega.{arith}
use Rattle.figures.specs.declared.Figures.{Figures}
use Rattle.figures.specs.Written.{Done, busy, sure, cut, repeated_times, run}
use Rattle.figures.specs.Inside.ReadOff.{first_run, last_run, rested, ever_ends, read_off}
use Rattle.figures.specs.Figures.{join, empty}
use Rattle.figures.proofs.Associative.{fig_path, join_assoc}
use Rattle.figures.proofs.Copying.{power}

-- what comes before a form goes on to its first run
run_carried : (k : ℕ) (xs : List Done) → run k xs ≡ max (k + first_run xs) (run 0 xs)
unfolding run first_run
run_carried k [] = omega arith
run_carried k (busy ∷ xs) = omega (arith, run_carried (suc k) xs, run_carried 1 xs)
run_carried k (sure ∷ xs) = omega arith
run_carried k (cut ∷ xs) = omega arith

-- and, where it has no rest, to its last
carry : (t : Bool) (k l f : ℕ) → cond t l (suc k + f) ≡ cond t (cond t l (1 + f)) (k + suc f)
carry true k l f = refl
carry false k l f = omega arith

last_carried : (k : ℕ) (xs : List Done) → last_run k xs ≡ cond (rested xs) (last_run 0 xs) (k + first_run xs)
unfolding last_run first_run rested
last_carried k [] = omega arith
last_carried k (busy ∷ xs) =
    rw (last_carried (suc k) xs, last_carried 1 xs) (carry (rested xs) k (last_run 0 xs) (first_run xs))
last_carried k (sure ∷ xs) = refl
last_carried k (cut ∷ xs) = omega arith

-- the empty form on the left
pub told_left : (xs : List Done) → join empty (read_off xs) ≡ read_off xs
unfolding join
told_left xs = fig_path refl refl (omega arith) (sym (last_carried 0 xs)) (omega (arith, run_carried 0 xs))

-- a form that is listed place by place is computed: to unfold this is to unfold what its own line names
unfoldable pub computing : Unit {0}
unfolding run first_run last_run rested ever_ends
computing = tt

-- one place more
told_cons : (x : Done) (xs : List Done) → read_off (x ∷ xs) ≡ join (read_off (x ∷ [])) (read_off xs)
unfolding join computing
told_cons busy xs = fig_path refl refl (omega arith) (last_carried 1 xs) (omega (arith, run_carried 1 xs))
told_cons sure xs = fig_path refl refl refl (last_carried 0 xs) (omega (arith, run_carried 0 xs))
told_cons cut xs = refl

-- two forms end to end
pub told_append : (xs ys : List Done) → read_off (xs ++ ys) ≡ join (read_off xs) (read_off ys)
told_append [] ys = unfold computing in sym (told_left ys)
told_append (x ∷ xs) ys =
    told_cons x (xs ++ ys) ∙ ap (join (read_off (x ∷ []))) (told_append xs ys) ∙ sym (join_assoc (read_off (x ∷ [])) (read_off xs) (read_off ys))
    ∙ ap (λ (a : Figures). join a (read_off ys)) (sym (told_cons x xs))

-- the empty form on the right
pub told_right : (xs : List Done) → join (read_off xs) empty ≡ read_off xs
unfolding computing
told_right xs = sym (told_append xs []) ∙ ap read_off (append-nil xs)

-- n forms end to end
pub told_times : (n : ℕ) (xs : List Done) → read_off (repeated_times n xs) ≡ power n (read_off xs)
unfolding repeated_times power
told_times zero xs = unfold computing in refl
told_times (suc n) xs = told_append xs (repeated_times n xs) ∙ ap (join (read_off xs)) (told_times n xs)
