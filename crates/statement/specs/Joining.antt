-- "WAIT DATA lines that follow each other in one process are one wait for the bytes joined": how many cells follow, and how many bytes they have.
use Rattle.std.specs.Prelude.{ℕ, ◌+◌, List, [], ◌∷◌}
use Rattle.language.specs.declared.Cell.{Cell}
use Rattle.language.specs.Cell.{decoded}
use Rattle.language.specs.View.{if_awaits, view}

-- the count goes on at a WAIT DATA cell alone
abbrev pub more : Cell → ℕ → ℕ → ℕ
more c n other = if_awaits (view c) (λ s. n) other

-- how many bytes a WAIT DATA cell has
abbrev pub awaited_bytes : Cell → ℕ
awaited_bytes c = if_awaits (view c) (λ s. s.count) 0

-- "WAIT DATA lines that follow each other in one process": how many there are
unfoldable pub neighbours : List ℕ → ℕ
neighbours [] = 0
neighbours (w ∷ ws) = more (decoded w) (neighbours ws + 1) 0

-- and how many bytes they have in all
unfoldable pub their_bytes : List ℕ → ℕ
their_bytes [] = 0
their_bytes (w ∷ ws) = more (decoded w) (awaited_bytes (decoded w) + their_bytes ws) 0
