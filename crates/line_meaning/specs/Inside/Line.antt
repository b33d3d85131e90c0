-- What the code tells of a line: its meaning, with the data beside it.
use Rattle.std.specs.Prelude.{ℕ, cond, List, length, ltb, Result}
use Rattle.language.specs.declared.TextFault.{TextFault}
use Rattle.language.specs.declared.TextFault.TheVariants.{LineTooLong}
use Rattle.language.specs.Limits.{line_limit}
use Rattle.language.specs.Script.{Meaning, fault}
use Rattle.language.specs.Meaning.{meaning}
use Rattle.line_values.specs.declared.Line.{Line}
use Rattle.line_values.specs.Inside.Line.{line_from, data_from}

-- "line over 127" comes before any other fault of the line
unfoldable pub meaning_in : List ℕ → Meaning
meaning_in l = cond (ltb line_limit (length l)) (fault LineTooLong) (meaning l)

-- what a line says: "line over 127" 1 comes first
unfoldable pub line_of : List ℕ → Result Line TextFault
line_of l = line_from (meaning_in l)

-- and the data that it has, none where it is refused
unfoldable pub line_data : List ℕ → List ℕ
line_data l = data_from (meaning_in l)
