-- The tables of names, parted as the code parts them: a test of the word leaves the entries that pass it.
use Rattle.std.specs.Prelude.{ℕ, Bool, cond, List, [], ◌∷◌, eqb, length, get_or}
use Rattle.language.specs.Meaning.{Entry, waits, names}

-- the entries that pass a test
unfoldable pub only : (List ℕ → Bool) → List Entry → List Entry
only p [] = []
only p (e ∷ es) = cond (p e.word) (e ∷ only p es) (only p es)

-- the byte at a place, and the length
abbrev pub byte_is : ℕ → ℕ → List ℕ → Bool
byte_is at b w = eqb (get_or w at 0) b

-- a name of so many bytes
abbrev pub length_is : ℕ → List ℕ → Bool
length_is n w = eqb (length w) n

-- the names with this byte after `#`
unfoldable pub names_with : ℕ → List Entry
names_with b = only (byte_is 1 b) names

-- the names of f: lines that are so long
unfoldable pub settings_long : ℕ → List Entry
settings_long n = only (length_is n) (names_with 102)

-- the second words that are so long
unfoldable pub waits_long : ℕ → List Entry
waits_long n = only (length_is n) waits
