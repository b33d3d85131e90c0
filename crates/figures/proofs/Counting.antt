-- Whether marks nest, by the first of them. Assumes nothing.
use mathlib.Core.Path.{◌≡◌, refl, sym}
use mathlib.Core.Bool.{Bool, false, true, cond, ◌&&◌}
use mathlib.Core.List.{List, [], ◌∷◌}
use Prim.Native.Nat.{ℕ, zero, suc, ◌+◌, ◌-◌}
use native.Mathlib.Numerals.{add-one, sub-one}
use native.Mathlib.Omega.{arith}
use lib.Dec.{eqb, ltb}
use borrow.Author.Tests.{lt-ltb, ne_eqb}
use Rattle.figures.specs.Flat.{Mark, opens, closes, deepest, marks_nest}

pub nests_end : (o : ℕ) → marks_nest o [] ≡ eqb o 0
unfolding marks_nest
nests_end zero = refl
nests_end (suc o) = sym (ne_eqb (suc o) 0 (omega arith))

pub nests_closes : (o : ℕ) (ms : List Mark) → marks_nest o (closes ∷ ms) ≡ (ltb 0 o && marks_nest (o - 1) ms)
unfolding marks_nest
nests_closes zero ms = refl
nests_closes (suc o) ms = rw (lt-ltb 0 (suc o) (omega arith), sub-one (suc o))

pub nests_opens : (n o : ℕ) (ms : List Mark) → marks_nest o (opens n ∷ ms) ≡ (ltb o deepest && marks_nest (o + 1) ms)
unfolding marks_nest
nests_opens n o ms = rw (add-one o) (go (ltb o deepest))
  where
    go : (t : Bool) → cond t (marks_nest (suc o) ms) false ≡ (t && marks_nest (suc o) ms)
    go true = refl
    go false = refl
