-- The open loops that the arrays of a process stand for, after each store. Assumes nothing.
use mathlib.Core.Path.{◌≡◌, refl, ap, subst}
use mathlib.Core.Bool.{Bool, true, false}
use mathlib.Core.List.{List, ◌∷◌}
use Prim.Native.Nat.{ℕ, zero, suc, ◌+◌, ◌≤◌, ◌<◌}
use native.Mathlib.Nat.{le_refl}
use native.Mathlib.Numerals.{add-one}
use native.Mathlib.Omega.{arith}
use lib.ListN.{get_or, set, length, drop}
use lib.Dec.{eqb}
use borrow.Author.Tests.{eqb-true, eqb-false}
use Rattle.figures.specs.Fragment.{Fragment}
use Rattle.figures.specs.Flat.{Mark, beyond, marks_nest}
use lib.Seq.{get_or-set_same, get_or-set_other}
use Rattle.bounded.proofs.Ahead.{opens_of}
use Rattle.bounded.proofs.Held.{Kept}

-- a store at or after the depth changes no open loop
past_left : (d e v : ℕ) (ls bs : List ℕ) → d ≤ e → opens_of d (set ls e v) bs ≡ opens_of d ls bs
unfolding opens_of
past_left zero e v ls bs h = refl
past_left (suc d) e v ls bs h = rw (get_or-set_other ls e d v 0 (omega arith), past_left d e v ls bs (omega arith))

past_back : (d e v : ℕ) (ls bs : List ℕ) → d ≤ e → opens_of d ls (set bs e v) ≡ opens_of d ls bs
unfolding opens_of
past_back zero e v ls bs h = refl
past_back (suc d) e v ls bs h = rw (get_or-set_other bs e d v 0 (omega arith), past_back d e v ls bs (omega arith))

pub opens_length : (d : ℕ) (ls bs : List ℕ) → length (opens_of d ls bs) ≡ d
unfolding opens_of
opens_length zero ls bs = refl
opens_length (suc d) ls bs = ap suc (opens_length d ls bs)

-- a loop is opened
pub opens_more : (d l b : ℕ) (ls bs : List ℕ) → d < length ls → d < length bs →
    opens_of (d + 1) (set ls d l) (set bs d b) ≡ record { back = b; left = l } ∷ opens_of d ls bs
unfolding opens_of
opens_more d l b ls bs h g =
    rw (add-one d, get_or-set_same bs d b 0, get_or-set_same ls d l 0, past_back d d b (set ls d l) bs (le_refl d), past_left d d l ls bs (le_refl d))

-- a pass of the innermost open loop is over
pub opens_less : (d l : ℕ) (ls bs : List ℕ) → d < length ls → opens_of (suc d) (set ls d l) bs ≡ record { back = get_or bs d 0; left = l } ∷ opens_of d ls bs
unfolding opens_of
opens_less d l ls bs g = rw (get_or-set_same ls d l 0, past_left d d l ls bs (le_refl d))

-- where the body of the j-th open loop begins, the marks close j + 1 loops
pub bodies_nest : (ms : List Mark) (first d : ℕ) (ls bs : List ℕ) (fs : List Fragment) → Kept ms first fs (opens_of d ls bs) → (j : ℕ) → j < d
    → marks_nest (suc j) (drop (get_or bs j 0) ms) ≡ true
unfolding opens_of
bodies_nest ms first zero ls bs fs k j l = absurd (omega arith)
bodies_nest ms first (suc d) ls bs fs k j l =
    by_choice (eqb j d)
    (λ e. rw (eqb-true j d e) (subst (λ (n : ℕ). marks_nest (suc n) (drop (get_or bs d 0) ms) ≡ true) (opens_length d ls bs) k.0.nested))
    (λ e. bodies_nest ms first d ls bs (beyond fs) k.1 j (omega (arith, eqb-false j d e)))
  where
    by_choice : {A : Type 0} (b : Bool) → (b ≡ true → A) → (b ≡ false → A) → A
    by_choice true f g = f refl
    by_choice false f g = g refl
