-- A name with nothing after it, as a line is told.
use Rattle.std.specs.Prelude.{ℕ, cond, List, Result, Ok, Err}
use Rattle.reader.specs.Bytes.{all, same, is_blank}
use Rattle.language.specs.declared.TextFault.{TextFault}
use Rattle.language.specs.declared.TextFault.TheVariants.{NoSuchName, BadRest}
use Rattle.line_values.specs.declared.Line.{Line}

-- a name with nothing after it
unfoldable pub bare_line : List ℕ → List ℕ → List ℕ → Line → Result Line TextFault
bare_line word name rest told = cond (same word name) (cond (all is_blank rest) (Ok told) (Err BadRest)) (Err NoSuchName)
