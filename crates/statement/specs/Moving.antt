-- Where a statement takes its process: the next place, the open loops, and the wait. "A drain does one statement".
use Rattle.std.specs.Prelude.{ℕ, ◌+◌, Bool, false, cond, List, ◌==◌, nat_le, nat_lt, slice_index, slice_index_or}
use Rattle.std.proofs.Math.Seq.{slice}
use Rattle.language.specs.declared.Span.{Span}
use Rattle.language.specs.declared.Level.{Level}
use Rattle.language.specs.declared.Cell.{Cell}
use Rattle.language.specs.declared.Cell.TheVariants.{Nothing, Send, Loop, End, WaitTime, WaitData, WaitByte, WaitClock, WaitSignal, Rts, Log, Fchange, Pause, Resume, Nop, Unknown}
use Rattle.language.specs.Limits.{cell_places, pool_places}
use Rattle.language.specs.Cell.{decoded}
use Rattle.process.specs.declared.Wait.{Wait}
use Rattle.process.specs.declared.Wait.TheVariants.{Ticks, Bytes, Data, ClockValue, Signal}
use Rattle.process.specs.declared.Process.{Process}
use Rattle.statement.specs.Joining.{neighbours, their_bytes}
use Rattle.statement.specs.Ways.{Moved, astray, moved_to, goes}
use Rattle.statement.specs.Loops.{opened, closed}
use Rattle.process.specs.Waiting.{same_level}

-- on to the next statement
abbrev pub goes_on : Process → Moved
goes_on p = goes p (p.place + 1) p.depth p.left p.back

-- a rest, with the next statement at a place
abbrev pub rests_at : Process → ℕ → Wait → Moved
rests_at p place w = moved_to p place p.depth p.left p.back w

-- a rest, with the next statement after this one
abbrev pub rests : Process → Wait → Moved
rests p w = rests_at p (p.place + 1) w

-- WAIT DATA begins: the bytes of its line and of its neighbours lie together in the pool
unfoldable pub awaits : Process → Span → ℕ → ℕ → Moved
awaits p s cells bytes =
    cond (nat_le (s.from + (s.count + bytes)) pool_places)
    (rests_at p (p.place + 1 + cells) (Data (record { from = s.from; count = s.count + bytes; matched = 0 })))
    (astray p)

-- "Zero waits pass"
unfoldable pub rests_unless : Process → ℕ → Wait → Moved
rests_unless p n w = cond (n == 0) (goes_on p) (rests p w)

-- "Signal waits pass at once if the level holds"
unfoldable pub signalled : Process → List Bool → Level → Moved
signalled p levels l = cond (same_level l.on (slice_index_or levels l.signal false)) (goes_on p) (rests p (Signal l))

-- the words of the process after its place
abbrev pub after_place : List ℕ → Process → List ℕ
after_place cells p = slice (p.place + 1) p.end cells

-- what each statement does to its process
unfoldable pub moved_by : List ℕ → List Bool → Process → Cell → Moved
moved_by cells levels p Nothing = astray p
moved_by cells levels p (Send s) = goes_on p
moved_by cells levels p (Loop n) = opened p (p.place + 1) n
moved_by cells levels p End = closed p (p.place + 1)
moved_by cells levels p (WaitTime n) = rests_unless p n (Ticks n)
moved_by cells levels p (WaitData s) = awaits p s (neighbours (after_place cells p)) (their_bytes (after_place cells p))
moved_by cells levels p (WaitByte n) = rests_unless p n (Bytes n)
moved_by cells levels p (WaitClock c) = rests p (ClockValue c)
moved_by cells levels p (WaitSignal l) = signalled p levels l
moved_by cells levels p (Rts on) = goes_on p
moved_by cells levels p (Log s) = goes_on p
moved_by cells levels p Fchange = goes_on p
moved_by cells levels p Pause = goes_on p
moved_by cells levels p Resume = goes_on p
moved_by cells levels p Nop = goes_on p
moved_by cells levels p Unknown = astray p

-- the cell at a process's place
abbrev pub cell_at : List ℕ → Process → Cell
cell_at cells p = decoded (slice_index cells p.place)

-- one statement of a process that is ready: its place lies within the table and before its end
unfoldable pub moved : List ℕ → List Bool → Process → Moved
moved cells levels p =
    cond (nat_lt p.place cell_places)
    (cond (nat_lt p.place p.end) (moved_by cells levels p (cell_at cells p)) (astray p))
    (astray p)
