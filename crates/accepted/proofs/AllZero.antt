-- A fold over elements that all must be zero, whatever their width. Assumes nothing.
use Rattle.std.specs.Prelude.{fold}
use Prim.Native.Nat.{ℕ}
use mathlib.Core.Path.{◌≡◌, sym, ◌∙◌}
use mathlib.Core.Bool.{Bool, true, ◌&&◌, and_assoc, and-true}
use mathlib.Core.List.{List, [], ◌∷◌}
use lib.Dec.{eqb}
use Rattle.accepted.specs.Inside.Heads.{is_zero, all_zero}

-- what `zeros::all_from` answers of zero
abbrev pub zeros_fold : Bool → List ℕ → Bool
zeros_fold t l = fold (λ (all : Bool) (y : ℕ). all && eqb y 0) t l

zeros_from : (t : Bool) (l : List ℕ) → zeros_fold t l ≡ (t && all_zero l)
unfolding all_zero
zeros_from t [] = sym (and-true t)
zeros_from t (y ∷ l) = zeros_from (t && is_zero y) l ∙ and_assoc t (is_zero y) (all_zero l)

pub zeros_are : (l : List ℕ) {r : Bool} → r ≡ zeros_fold true l → r ≡ all_zero l
zeros_are l e = e ∙ zeros_from true l
