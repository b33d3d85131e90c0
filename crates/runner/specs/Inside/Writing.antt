-- What the code asks of a cell.
use Rattle.std.specs.Prelude.{◌≡◌, true, ◌⊎◌}
use Rattle.language.specs.declared.Cell.{Cell}
use Rattle.language.specs.declared.Cell.TheVariants as cell
use Rattle.language.specs.Inside.Right.{cell_right}

-- the cell of some word, so that its data lie in the pool, and are as many bytes as a line can have
abbrev pub OfWord : Cell → Type 0
OfWord c = (c ≡ cell.Unknown) ⊎ (cell_right c ≡ true)
