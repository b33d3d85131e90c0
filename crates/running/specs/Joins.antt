-- What joining comes to: document 01, "WAIT DATA lines that follow each other in one process are one wait for the bytes joined." Assumes nothing: these are
-- definitions.
use Rattle.std.specs.Prelude.{◌≡◌, List, [], ◌∷◌, ◌++◌, map, ℕ}
use Rattle.language.specs.Script.{Statement, wait_data}
use Rattle.running.specs.Joined.{nothing, awaits, joined_in}

-- the bytes of some lines, one after the other
unfoldable pub together : List (List ℕ) → List ℕ
together [] = []
together (d ∷ ds) = d ++ together ds

-- the process ends here, or goes on with a statement that is no wait for data
abbrev pub Parted : List Statement → Type 0
Parted [] = Unit {0}
Parted (s ∷ ss) = awaits s ≡ nothing

-- WAIT DATA lines up to such a place are one statement, of all their bytes; every other statement stays by itself
pub record Joins : Type 0 where
  pub lines : (d : List ℕ) (ds : List (List ℕ)) (ss : List Statement) → Parted ss →
      joined_in (map wait_data (d ∷ ds) ++ ss) ≡ wait_data (together (d ∷ ds)) ∷ joined_in ss
  pub other : (s : Statement) (ss : List Statement) → awaits s ≡ nothing → joined_in (s ∷ ss) ≡ s ∷ joined_in ss
