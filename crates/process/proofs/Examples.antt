-- Waits and clock values at their edges, computed: what damaged states come to, and each neighbour that is right. Assumes nothing.
use Prim.Native.Nat.{ℕ}
use mathlib.Core.Path.{◌≡◌, refl}
use mathlib.Core.Bool.{Bool, true, false}
use mathlib.Core.List.{List, [], ◌∷◌}
use Rattle.process.specs.Waiting.{progress_right}

-- a wait for data: where they begin in the pool, how many they are, how many are matched; and whether a byte can be taken, else 25
abbrev Holds : List (ℕ × (ℕ × (ℕ × Bool))) → Type 0
Holds [] = Unit {0}
Holds (c ∷ cs) = (progress_right (record { from = c.0; count = c.1.0; matched = c.1.1.0 }) ≡ c.1.1.1) × Holds cs

-- "a data range the call must use leaves the table": past the 1,024 bytes of the pool, or matched as many as there are, or more
abbrev ranges : List (ℕ × (ℕ × (ℕ × Bool)))
ranges =
    (0, (1, (0, true)))
    ∷ (1023, (1, (0, true)))
    ∷ (1024, (1, (0, false)))
    ∷ (1000, (24, (0, true)))
    ∷ (1000, (25, (0, false)))
    ∷ (0, (1024, (1023, true)))
    ∷ (0, (1025, (0, false)))
    ∷ (65535, (65535, (0, false)))
    ∷ (0, (3, (2, true)))
    ∷ (0, (3, (3, false)))
    ∷ (0, (3, (4, false)))
    ∷ (0, (0, (0, false)))
    ∷ []

ranges_hold : Holds ranges
unfolding progress_right
ranges_hold = (refl, (refl, (refl, (refl, (refl, (refl, (refl, (refl, (refl, (refl, (refl, (refl, tt))))))))))))
