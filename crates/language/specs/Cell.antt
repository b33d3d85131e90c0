-- A table's cell in one word: its kind times 2 ^ 26, and its argument below that.
use Rattle.std.specs.Prelude.{ℕ, ◌+◌, ◌-◌, ◌*◌, ◌/◌, ◌%◌, Bool, true, false, cond, ◌&&◌, List, [], ◌∷◌, drop, ltb, leb, eqb}
use Rattle.language.specs.declared.Span.{Span}
use Rattle.language.specs.declared.Clock.{Clock}
use Rattle.language.specs.declared.Level.{Level}
use Rattle.language.specs.declared.Cell.{Cell}
use Rattle.language.specs.declared.Cell.TheVariants.{Nothing, Send, Loop, End, WaitTime, WaitData, WaitByte, WaitClock, WaitSignal, Rts, Log, Fchange, Pause, Resume, Nop, Unknown}
use Rattle.language.specs.Limits.{send_room, wait_room, log_room, pool_places}
use Rattle.language.specs.Clock.{Range, range, within}
use Rattle.language.specs.Right.{time_right}

-- a range of the pool, a level and a clock value, by their parts
abbrev pub span : ℕ → ℕ → Span
span from count = record { from = from; count = count }

-- a signal, 0 for CTS and 1 to 4 for EX, and its level
abbrev pub level : ℕ → Bool → Level
level n on = record { signal = n; on = on }

-- a clock value: how many units are fixed, and each of them
abbrev pub clock : ℕ → ℕ → ℕ → ℕ → ℕ → Clock
clock fixed day hour minute second = record { fixed = fixed; day = day; hour = hour; minute = minute; second = second }

-- a level as a digit
abbrev pub bit : Bool → ℕ
bit true = 1
bit false = 0

-- ---- the word of a cell

-- the number of each kind of cell
abbrev pub kind_of : Cell → ℕ
kind_of Nothing = 0
kind_of (Send s) = 1
kind_of (Loop n) = 2
kind_of End = 3
kind_of (WaitTime n) = 4
kind_of (WaitData s) = 5
kind_of (WaitByte n) = 6
kind_of (WaitClock c) = 7
kind_of (WaitSignal l) = 8
kind_of (Rts on) = 9
kind_of (Log s) = 10
kind_of Fchange = 11
kind_of Pause = 12
kind_of Resume = 13
kind_of Nop = 14
kind_of Unknown = 15

-- where data lie: the first place, and 7 bits for how many bytes
unfoldable pub span_number : Span → ℕ
span_number s = s.from * 128 + s.count

-- a clock value: the fixed units, 5 bits for day and hour, 6 for minute and second
unfoldable pub clock_number : Clock → ℕ
clock_number c = c.fixed * 4194304 + (c.day * 131072 + (c.hour * 4096 + (c.minute * 64 + c.second)))

-- what a cell has besides its kind
abbrev pub argument_of : Cell → ℕ
argument_of Nothing = 0
argument_of (Send s) = span_number s
argument_of (Loop n) = n
argument_of End = 0
argument_of (WaitTime n) = n
argument_of (WaitData s) = span_number s
argument_of (WaitByte n) = n
argument_of (WaitClock c) = clock_number c
argument_of (WaitSignal l) = l.signal * 2 + bit l.on
argument_of (Rts on) = bit on
argument_of (Log s) = span_number s
argument_of Fchange = 0
argument_of Pause = 0
argument_of Resume = 0
argument_of Nop = 0
argument_of Unknown = 0

-- the kind in the top 6 bits, the argument below 2^26
unfoldable pub coded : Cell → ℕ
coded c = kind_of c * 67108864 + argument_of c % 67108864

-- ---- the cells that a line can have

-- so many bytes as a line can hold, within the pool
unfoldable pub span_right : ℕ → ℕ → Span → Bool
span_right low high s = leb low s.count && (leb s.count high && leb (s.from + s.count) pool_places)

-- a unit that is fixed is in its range, any other is 0
unfoldable pub unit_right : Bool → Range → ℕ → Bool
unit_right true r v = within r v
unit_right false r v = eqb v 0

-- "D 01 to 31, h to 23, m and s to 59", for the units that are fixed
unfoldable pub fixed_right : Clock → Bool
fixed_right c =
    leb c.fixed 4
    && (unit_right (leb 4 c.fixed) (range 1 31) c.day
    && (unit_right (leb 3 c.fixed) (range 0 23) c.hour
    && (unit_right (leb 2 c.fixed) (range 0 59) c.minute
    && unit_right (leb 1 c.fixed) (range 0 59) c.second)))

-- ---- the cell of a word

-- a cell whose argument a line can have, or Unknown
abbrev pub or_unknown : Bool → Cell → Cell
or_unknown ok c = cond ok c Unknown

-- a range back from its number
abbrev pub span_of : ℕ → Span
span_of a = span (a / 128) (a % 128)

-- a clock value back from its number
abbrev pub clock_of_number : ℕ → Clock
clock_of_number a = clock (a / 4194304) (a / 131072 % 32) (a / 4096 % 32) (a / 64 % 64) (a % 64)

-- the cell of a kind and an argument: none but `cellRight` ones
unfoldable pub cell_of : ℕ → ℕ → Cell
cell_of kind a =
    cond (eqb kind 0) (or_unknown (eqb a 0) Nothing)
    (cond (eqb kind 1) (or_unknown (span_right 0 send_room (span_of a)) (Send (span_of a)))
    (cond (eqb kind 2) (or_unknown (leb a 60000) (Loop a))
    (cond (eqb kind 3) (or_unknown (eqb a 0) End)
    (cond (eqb kind 4) (or_unknown (time_right a) (WaitTime a))
    (cond (eqb kind 5) (or_unknown (span_right 1 wait_room (span_of a)) (WaitData (span_of a)))
    (cond (eqb kind 6) (or_unknown (leb a 60000) (WaitByte a))
    (cond (eqb kind 7) (or_unknown (fixed_right (clock_of_number a)) (WaitClock (clock_of_number a)))
    (cond (eqb kind 8) (or_unknown (ltb a 10) (WaitSignal (level (a / 2) (eqb (a % 2) 1))))
    (cond (eqb kind 9) (or_unknown (ltb a 2) (Rts (eqb a 1)))
    (cond (eqb kind 10) (or_unknown (span_right 0 log_room (span_of a)) (Log (span_of a)))
    (cond (eqb kind 11) (or_unknown (eqb a 0) Fchange)
    (cond (eqb kind 12) (or_unknown (eqb a 0) Pause)
    (cond (eqb kind 13) (or_unknown (eqb a 0) Resume)
    (cond (eqb kind 14) (or_unknown (eqb a 0) Nop) Unknown))))))))))))))

-- what every word says; Unknown where no line has such a cell
unfoldable pub decoded : ℕ → Cell
decoded w = cell_of (w / 67108864) (w % 67108864)

-- ---- clock values as lists of the fixed units

-- the values of the fixed units, the longest first, as a clock value
unfoldable pub clock_from : List ℕ → Clock
clock_from [] = clock 0 0 0 0 0
clock_from (s ∷ []) = clock 1 0 0 0 s
clock_from (m ∷ s ∷ []) = clock 2 0 0 m s
clock_from (h ∷ m ∷ s ∷ []) = clock 3 0 h m s
clock_from (d ∷ h ∷ m ∷ s ∷ more) = clock 4 d h m s

-- and back
unfoldable pub fixed_units : Clock → List ℕ
fixed_units c = drop (4 - c.fixed) (c.day ∷ c.hour ∷ c.minute ∷ c.second ∷ [])
