-- The ways on that every statement has: to a place, with the loops that are open there and a wait; or 25.
use Rattle.std.specs.Prelude.{ℕ, Bool, true, false, List}
use Rattle.process.specs.declared.Wait.{Wait}
use Rattle.process.specs.declared.Process.{Process}
use Rattle.process.specs.Waiting.{awake}

-- a process after its statement; or as it was, where a place, loop or data range leaves the table
pub record Moved : Type 0 where
  pub found : Bool
  pub process : Process

-- 25: "a place, loop or data range the call must use leaves the table"
abbrev pub astray : Process → Moved
astray p = record { found = false; process = p }

-- to a place, with the open loops there, and a wait
abbrev pub moved_to : Process → ℕ → ℕ → List ℕ → List ℕ → Wait → Moved
moved_to p place depth left back w =
    record { found = true; process = record { place = place; end = p.end; depth = depth; left = left; back = back; wait = w } }

-- on to a place, ready there or over
abbrev pub goes : Process → ℕ → ℕ → List ℕ → List ℕ → Moved
goes p place depth left back = moved_to p place depth left back (awake place p.end)
