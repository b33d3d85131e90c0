-- A fragment: statements of one process with their loops closed, as a tree. Assumes nothing: these are definitions.
use Rattle.std.specs.Prelude.{ℕ}

-- Statements up to the END of their loop or the end of the process; `loop n body after` is LOOP n, its body, END and what comes after, and 0 is forever.
pub data Fragment : Type 0 where
  stop : Fragment
  other : Fragment → Fragment
  rest : Fragment → Fragment
  loop : ℕ → Fragment → Fragment → Fragment
