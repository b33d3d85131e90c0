-- A wait for a level, as a line is told.
use Rattle.std.specs.Prelude.{ℕ, Bool}
use Rattle.language.specs.declared.Cell.TheVariants.{WaitSignal}
use Rattle.language.specs.Cell.{level}
use Rattle.line_values.specs.declared.Line.{Line}
use Rattle.line_values.specs.declared.Line.TheVariants.{Says}

-- a wait for a level, told
unfoldable pub level_line : ℕ → Bool → Line
level_line n on = Says (WaitSignal (level n on))
