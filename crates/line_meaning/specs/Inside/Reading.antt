-- What a part of the code tells of a line: what it finds, and the data put in front of the lent bytes.
use Rattle.std.specs.Prelude.{ℕ, ◌≤◌, ◌≡◌, List, length, Result}
use Rattle.std.proofs.lemmas.List.Edits.{sets}
use Rattle.hex_data.specs.Hex.{Said}
use Rattle.hex_data.specs.Inside.Said.{said_bytes}
use Rattle.language.specs.declared.TextFault.{TextFault}
use Rattle.language.specs.Script.{Meaning}
use Rattle.line_values.specs.declared.Line.{Line}
use Rattle.line_values.specs.Inside.Line.{line_from, data_from}
use Rattle.line_meaning.specs.Inside.Found.{found}
use Rattle.language.specs.Limits.{line_limit}

-- a line with this meaning
pub record ReadsLine (m : Meaning) (line : Result Line TextFault) (entry exit : List ℕ) : Type 0 where
  pub told : line ≡ line_from m
  pub written : exit ≡ sets entry 0 (data_from m)

-- data that say this, no more than a line holds
pub record ReadsData (x : Said) (told : Result ℕ TextFault) (entry exit : List ℕ) : Type 0 where
  pub is : told ≡ found x
  pub few : length (said_bytes x) ≤ line_limit
  pub written : exit ≡ sets entry 0 (said_bytes x)
