-- The figures as they are read off a written-out form.
use Rattle.std.specs.Prelude.{Bool, true, false, List, [], ◌∷◌, ℕ, suc}
use Rattle.figures.specs.Written.{Done, busy, sure, cut, longest_run}
use Rattle.figures.specs.declared.Figures.{Figures}
use Rattle.figures.specs.Figures.{fig}

-- "its first, last .. runs": the run that the form starts with
unfoldable pub first_run : List Done → ℕ
first_run [] = 0
first_run (busy ∷ xs) = suc (first_run xs)
first_run (sure ∷ xs) = 0
first_run (cut ∷ xs) = 0

-- and the one that it ends with, where k statements come before
unfoldable pub last_run : ℕ → List Done → ℕ
last_run k [] = k
last_run k (busy ∷ xs) = last_run (suc k) xs
last_run k (sure ∷ xs) = last_run 0 xs
last_run k (cut ∷ xs) = k

-- "whether it rests"
unfoldable pub rested : List Done → Bool
rested [] = false
rested (busy ∷ xs) = rested xs
rested (sure ∷ xs) = true
rested (cut ∷ xs) = false

-- "whether it ever ends"
unfoldable pub ever_ends : List Done → Bool
ever_ends [] = true
ever_ends (busy ∷ xs) = ever_ends xs
ever_ends (sure ∷ xs) = ever_ends xs
ever_ends (cut ∷ xs) = false

-- "whether it rests, whether it ever ends, its first, last and longest runs", read off a written-out form
abbrev pub read_off : List Done → Figures
read_off xs = fig (rested xs) (ever_ends xs) (first_run xs) (last_run 0 xs) (longest_run xs)
