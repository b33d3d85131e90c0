-- What the heads of an accepted table have: ends that go up, settings that lines can have. What nothing uses is zero.
use Rattle.std.specs.Prelude.{ℕ, ◌+◌, Bool, true, false, cond, ◌&&◌, not, List, [], ◌∷◌, length, get_or, take, drop, ltb, leb, eqb}
use Rattle.reader.specs.Ascii.{ascii}
use Rattle.reader.specs.Bytes.{all, same}
use Rattle.language.specs.declared.Heads.{Heads}
use Rattle.language.specs.Limits.{omit_limit, process_limit, cell_places}
use Rattle.language.specs.Meaning.{extension}
use Rattle.language.specs.Table.{letters_of}

-- "unused cells are zero"
abbrev pub is_zero : ℕ → Bool
is_zero b = eqb b 0

-- nothing but zeros
unfoldable pub all_zero : List ℕ → Bool
all_zero l = all is_zero l

-- each process ends where it begins or later, and within the cells; the last end
unfoldable pub rising : ℕ → List ℕ → Bool
rising i [] = true
rising i (e ∷ es) = leb i e && (leb e cell_places && rising e es)

-- where the last process ends
unfoldable pub last_end : ℕ → List ℕ → ℕ
last_end i [] = i
last_end i (e ∷ es) = last_end e es

-- the ends of the processes in use
abbrev pub ends_of : Heads → List ℕ
ends_of h = take h.processes h.ends

-- how many cells are in use
abbrev pub in_use : Heads → ℕ
in_use h = last_end 0 (ends_of h)

-- 1 to 8 processes, whose ends go up within the cells
unfoldable pub ends_right : Heads → Bool
ends_right h =
    leb 1 h.processes && (leb h.processes process_limit && (rising 0 (ends_of h) && all_zero (drop h.processes h.ends)))

-- letters that LFEXT can have, and nothing after them
abbrev pub extension_fits : List ℕ → Bool
extension_fits e = extension (letters_of e) && all_zero (drop (length (letters_of e)) e)

-- settings that lines can have, and nothing after them
unfoldable pub settings_fit : Heads → Bool
settings_fit h =
    cond h.encodes true (eqb h.encode 0)
    && (leb h.omits omit_limit
    && (all_zero (drop h.omits h.omit) && extension_fits h.extension))

-- a line that stands there or not
abbrev pub count_if : Bool → ℕ
count_if true = 1
count_if false = 0

-- "and the first too if it is empty and others follow"
unfoldable pub first_empty : Heads → Bool
first_empty h = ltb 1 h.processes && eqb (get_or h.ends 0 0) 0

-- the lines of the listing: the settings that are not default, a line for each cell, the PROCESS lines
unfoldable pub settings_in : Heads → ℕ
settings_in h =
    count_if h.encodes + (count_if h.two_stop_bits + (count_if (ltb 0 h.omits) + count_if (not (same (letters_of h.extension) (ascii "LOG")))))
