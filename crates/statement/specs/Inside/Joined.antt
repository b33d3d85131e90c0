-- The joined WAIT DATA lines, as the code answers them.
use Rattle.std.specs.Prelude.{ℕ, List}
use Rattle.statement.specs.declared.joining.Joined.{Joined}
use Rattle.statement.specs.Joining.{neighbours, their_bytes}

-- both, as the code answers them
abbrev pub joined_of : List ℕ → Joined
joined_of ws = record { cells = neighbours ws; bytes = their_bytes ws }
