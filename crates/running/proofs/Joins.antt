-- WAIT DATA lines that follow each other are one wait for their bytes together. Assumes nothing.
use mathlib.Core.Path.{◌≡◌, refl, ap}
use mathlib.Core.List.{List, [], ◌∷◌, ◌++◌, map, append-nil}
use Prim.Native.Nat.{ℕ}
use Rattle.language.specs.Script.{Statement, wait_data}
use Rattle.running.specs.Joined.{nothing, awaits, join_two, join_to, joined_in}
use Rattle.running.specs.Joins.{together, Parted, Joins}

-- a statement that is no wait for data stays by itself
pub joins_none : (s : Statement) (ss : List Statement) → awaits s ≡ nothing → join_to s ss ≡ s ∷ ss
unfolding join_to join_two
joins_none s [] e = refl
joins_none s (t ∷ ss) e = rw e

-- a wait for data in front of such a statement, or of nothing, too
parted_joins : (d : List ℕ) (ss : List Statement) → Parted ss → join_to (wait_data d) (joined_in ss) ≡ wait_data d ∷ joined_in ss
unfolding join_to join_two joined_in awaits
parted_joins d [] e = refl
parted_joins d (s ∷ ss) e = rw (joins_none s (joined_in ss) e, e)

lines_join : (d : List ℕ) (ds : List (List ℕ)) (ss : List Statement) → Parted ss → joined_in (map wait_data (d ∷ ds) ++ ss) ≡ wait_data (together (d ∷ ds)) ∷ joined_in ss
unfolding joined_in together join_to join_two awaits
lines_join d [] ss e = rw append-nil (parted_joins d ss e)
lines_join d (c ∷ ds) ss e = ap (join_to (wait_data d)) (lines_join c ds ss e)

-- THE THEOREM
pub joins : Joins
unfolding joined_in
joins = record { lines = lines_join; other = λ s ss e. joins_none s (joined_in ss) e }
