-- How far the pass over the cells comes.
use Rattle.std.specs.Prelude.{ℕ, ◌+◌, List, Option}
use Rattle.language.specs.Cell.{decoded}
use Rattle.accepted.specs.Inside.EndsFit.{reaches}
use Rattle.accepted.specs.Inside.Cells.{cell_fits, bytes_of_cell, words_fit, words_end}

-- a word fits, to where its data end
unfoldable pub word_reach : List ℕ → ℕ → ℕ → Option ℕ
word_reach pool at w = reaches (cell_fits pool at (decoded w)) (at + bytes_of_cell (decoded w))

-- the words fit, to where their data end
unfoldable pub words_reach : List ℕ → ℕ → List ℕ → Option ℕ
words_reach pool at ws = reaches (words_fit pool at ws) (words_end at ws)
