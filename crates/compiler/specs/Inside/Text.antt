-- A part of a text by its places, and where a line ends. Assumes nothing: these are definitions.
use Rattle.std.specs.Prelude.{ℕ, ◌+◌, ◌-◌, ◌≤◌, ◌<◌, ◌≡◌, Bool, true, not, ◌&&◌, List, leb, eqb, length, take, drop, get_or}
use Rattle.reader.specs.Bytes.{all}

-- the bytes from one place to another
abbrev pub part : List ℕ → ℕ → ℕ → List ℕ
part s from to = take (to - from) (drop from s)

-- none of them is an LF
abbrev pub no_lf : List ℕ → Bool
no_lf l = all (λ b. not (eqb b 10)) l

-- sixteen bytes from a place on are there, and none of them is an LF
abbrev pub clear_from : List ℕ → ℕ → Bool
clear_from s from = leb (from + 16) (length s) && no_lf (part s from (from + 16))

-- the first LF from a place on stands there, or the text ends there
pub record EndsAt (s : List ℕ) (from e : ℕ) : Type 0 where
  pub begun : from ≤ e
  pub upto : e ≤ length s
  pub clear : no_lf (part s from e) ≡ true
  pub feed : e < length s → get_or s e 0 ≡ 10
