-- What the cells in use of an accepted table have: each says a statement that a line can have, with its data after those before.
use Rattle.std.specs.Prelude.{ℕ, ◌+◌, Bool, true, false, ◌&&◌, List, [], ◌∷◌, take, drop, leb, eqb}
use Rattle.language.specs.declared.Span.{Span}
use Rattle.language.specs.declared.Cell.{Cell}
use Rattle.language.specs.declared.Cell.TheVariants.{Nothing, Send, Loop, End, WaitTime, WaitData, WaitByte, WaitClock, WaitSignal, Rts, Log, Fchange, Pause, Resume, Nop, Unknown}
use Rattle.language.specs.Limits.{data_limit, send_room, wait_room}
use Rattle.language.specs.Right.{data_right, log_right}
use Rattle.language.specs.Cell.{decoded}
use Rattle.language.specs.Table.{data_at}
use Rattle.accepted.specs.Inside.Heads.{all_zero}
use Rattle.language.specs.View.{view, if_sends, if_awaits, if_logs}

-- data begin where those before them end
unfoldable pub follows : ℕ → Span → Bool
follows at s = eqb s.from at

-- a cell that says a statement, whose data begin at `at` and are such as a line can have
unfoldable pub cell_fits : List ℕ → ℕ → Cell → Bool
cell_fits pool at Nothing = false
cell_fits pool at (Send s) = follows at s && data_right send_room (data_at pool s)
cell_fits pool at (Loop n) = true
cell_fits pool at End = true
cell_fits pool at (WaitTime n) = true
cell_fits pool at (WaitData s) = follows at s && data_right wait_room (data_at pool s)
cell_fits pool at (WaitByte n) = true
cell_fits pool at (WaitClock c) = true
cell_fits pool at (WaitSignal l) = true
cell_fits pool at (Rts on) = true
cell_fits pool at (Log s) = follows at s && log_right (data_at pool s)
cell_fits pool at Fchange = true
cell_fits pool at Pause = true
cell_fits pool at Resume = true
cell_fits pool at Nop = true
cell_fits pool at Unknown = false

-- how many bytes of the pool a cell has
unfoldable pub bytes_of_cell : Cell → ℕ
bytes_of_cell c = if_sends (view c) (λ s. s.count) (if_awaits (view c) (λ s. s.count) (if_logs (view c) (λ s. s.count) 0))

-- the words of some cells, and where their data end
unfoldable pub words_fit : List ℕ → ℕ → List ℕ → Bool
words_fit pool at [] = true
words_fit pool at (w ∷ ws) = cell_fits pool at (decoded w) && words_fit pool (at + bytes_of_cell (decoded w)) ws

-- where the data of some words end
unfoldable pub words_end : ℕ → List ℕ → ℕ
words_end at [] = at
words_end at (w ∷ ws) = words_end (at + bytes_of_cell (decoded w)) ws

-- the first n cells fit their data, which are so many bytes, and what is after them is zero
unfoldable pub cells_fit : ℕ → List ℕ → List ℕ → ℕ → Bool
cells_fit n cells pool used =
    words_fit pool 0 (take n cells)
    && (all_zero (drop n cells) && (eqb used (words_end 0 (take n cells)) && (leb used data_limit && all_zero (drop used pool))))
