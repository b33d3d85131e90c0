-- The written-out form of a fragment, and its runs. Assumes nothing: these are definitions.
use Rattle.std.specs.Prelude.{List, [], ◌∷◌, ◌++◌, ℕ, zero, suc, max}
use Rattle.figures.specs.Fragment.{Fragment, stop, other, rest, loop}

-- One place of the written-out form: a statement that is no sure rest, a sure rest, or the cut after a forever loop, after which nothing is reached.
pub data Done : Type 0 where
  busy : Done
  sure : Done
  cut : Done

-- "every loop repeated as often as it says"
unfoldable pub repeated_times : ℕ → List Done → List Done
repeated_times zero xs = []
repeated_times (suc n) xs = xs ++ repeated_times n xs

-- "after a forever loop nothing follows": of its passes, which never end, m are written out, and then the cut
unfoldable pub repeated : ℕ → ℕ → List Done → List Done
repeated m zero xs = repeated_times m xs ++ (cut ∷ [])
repeated m (suc n) xs = repeated_times (suc n) xs

-- "Write out each process's statements"; "LOOP counts once on entry, END once per pass"
unfoldable pub written : ℕ → Fragment → List Done
written m stop = []
written m (other p) = busy ∷ written m p
written m (rest p) = sure ∷ written m p
written m (loop n b p) = busy ∷ (repeated m n (written m b ++ (busy ∷ [])) ++ written m p)

-- "The longest run of other statements with no sure rest between", where k of them come before
unfoldable pub run : ℕ → List Done → ℕ
run k [] = k
run k (busy ∷ xs) = run (suc k) xs
run k (sure ∷ xs) = max k (run 0 xs)
run k (cut ∷ xs) = k

-- the longest run of all
abbrev pub longest_run : List Done → ℕ
longest_run xs = run 0 xs
