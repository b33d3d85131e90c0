-- A script laid out in a table, and a table read back as a script. "A table's unused cells are zero."
use Rattle.std.specs.Prelude.{ℕ, ◌+◌, ◌-◌, Bool, true, false, cond, List, [], ◌∷◌, ◌++◌, length, take, drop, replicate, eqb}
use Rattle.std.proofs.Math.Seq.{slice}
use Rattle.language.specs.declared.Span.{Span}
use Rattle.language.specs.declared.Cell.{Cell}
use Rattle.language.specs.declared.Cell.TheVariants.{Nothing, Send, Loop, End, WaitTime, WaitData, WaitByte, WaitClock, WaitSignal, Rts, Log, Fchange, Pause, Resume, Nop, Unknown}
use Rattle.language.specs.declared.Heads.{Heads}
use Rattle.language.specs.declared.Table.{Table}
use Rattle.language.specs.Limits.{cell_places, pool_places, process_places, omit_places, letter_places}
use Rattle.language.specs.Script.{Statement, send, loop, end, wait_time, wait_data, wait_byte, wait_clock, wait_signal, rts, log, fchange, pause, resume, nop, Encode, unset, byte, Settings, Item, does, next, Script, data_of}
use Rattle.language.specs.Cell.{span, level, coded, decoded, clock_from, fixed_units}

-- zeros after a list, up to n
abbrev pub padded : ℕ → List ℕ → List ℕ
padded n l = l ++ replicate (n - length l) 0

-- a table by its parts
abbrev pub table : List ℕ → List ℕ → Heads → Table
table cells pool heads = record { cells = cells; pool = pool; heads = heads }

-- ---- a script laid out

-- the cell of a statement whose data begin at a place of the pool
unfoldable pub cell_for : ℕ → Statement → Cell
cell_for at (send bs) = Send (span at (length bs))
cell_for at (loop n) = Loop n
cell_for at end = End
cell_for at (wait_time n) = WaitTime n
cell_for at (wait_data bs) = WaitData (span at (length bs))
cell_for at (wait_byte n) = WaitByte n
cell_for at (wait_clock vs) = WaitClock (clock_from vs)
cell_for at (wait_signal n on) = WaitSignal (level n on)
cell_for at (rts on) = Rts on
cell_for at (log text) = Log (span at (length text))
cell_for at fchange = Fchange
cell_for at pause = Pause
cell_for at resume = Resume
cell_for at nop = Nop

-- a word for each statement, in the order of the lines, `at` bytes of data standing before them
unfoldable pub words_from : ℕ → List Item → List ℕ
words_from at [] = []
words_from at (does s ∷ is) = coded (cell_for at s) ∷ words_from (at + length (data_of s)) is
words_from at (next ∷ is) = words_from at is

-- the bytes of the data, one after the other
unfoldable pub pool_of : List Item → List ℕ
pool_of [] = []
pool_of (does s ∷ is) = data_of s ++ pool_of is
pool_of (next ∷ is) = pool_of is

-- the place after the last cell of each process, `i` cells standing before them
unfoldable pub ends_from : ℕ → List Item → List ℕ
ends_from i [] = i ∷ []
ends_from i (does s ∷ is) = ends_from (i + 1) is
ends_from i (next ∷ is) = i ∷ ends_from i is

-- whether an ENCODE byte is set
abbrev pub encodes : Encode → Bool
encodes unset = false
encodes (byte b) = true

-- the ENCODE byte, 0 where none is set
abbrev pub encode_byte_of : Encode → ℕ
encode_byte_of unset = 0
encode_byte_of (byte b) = b

-- what a table has besides cells and data
unfoldable pub heads_of : Script → Heads
heads_of s =
    record {
      processes = length (ends_from 0 s.body);
      ends = padded process_places (ends_from 0 s.body);
      used = length (pool_of s.body);
      encodes = encodes s.settings.encode;
      encode = encode_byte_of s.settings.encode;
      two_stop_bits = s.settings.two_stopbits;
      omits = length s.settings.omit;
      omit = padded omit_places s.settings.omit;
      extension = padded letter_places s.settings.lfext;
    }

-- the table of a script: "a table's unused cells are zero"
unfoldable pub laid_out : Script → Table
laid_out s =
    record {
      cells = padded cell_places (words_from 0 s.body);
      pool = padded pool_places (pool_of s.body);
      heads = heads_of s;
    }

-- ---- and read back

-- the bytes of a span
abbrev pub data_at : List ℕ → Span → List ℕ
data_at pool s = take s.count (drop s.from pool)

-- the statement of a cell; a cell that says none is read as NOP, which is laid out otherwise
unfoldable pub statement_of : List ℕ → Cell → Statement
statement_of pool Nothing = nop
statement_of pool (Send s) = send (data_at pool s)
statement_of pool (Loop n) = loop n
statement_of pool End = end
statement_of pool (WaitTime n) = wait_time n
statement_of pool (WaitData s) = wait_data (data_at pool s)
statement_of pool (WaitByte n) = wait_byte n
statement_of pool (WaitClock c) = wait_clock (fixed_units c)
statement_of pool (WaitSignal l) = wait_signal l.signal l.on
statement_of pool (Rts on) = rts on
statement_of pool (Log s) = log (data_at pool s)
statement_of pool Fchange = fchange
statement_of pool Pause = pause
statement_of pool Resume = resume
statement_of pool Nop = nop
statement_of pool Unknown = nop

-- the statements of some words
unfoldable pub items_of : List ℕ → List ℕ → List Item
items_of pool [] = []
items_of pool (w ∷ ws) = does (statement_of pool (decoded w)) ∷ items_of pool ws

-- the processes that end at these places, the first of them beginning at `i`
unfoldable pub body_from : List ℕ → List ℕ → ℕ → List ℕ → List Item
body_from pool ws i [] = []
body_from pool ws i (e ∷ []) = items_of pool (slice i e ws)
body_from pool ws i (e ∷ f ∷ es) = items_of pool (slice i e ws) ++ next ∷ body_from pool ws e (f ∷ es)

-- the letters of an extension
unfoldable pub letters_of : List ℕ → List ℕ
letters_of [] = []
letters_of (b ∷ l) = cond (eqb b 0) [] (b ∷ letters_of l)

-- the settings, from the heads
unfoldable pub settings_of : Heads → Settings
settings_of h =
    record {
      encode = cond h.encodes (byte h.encode) unset;
      two_stopbits = h.two_stop_bits;
      omit = take h.omits h.omit;
      lfext = letters_of h.extension;
    }

-- the script of a table: of one laid out it is the script
unfoldable pub script_of : Table → Script
script_of t =
    record {
      settings = settings_of t.heads;
      body = body_from t.pool t.cells 0 (take t.heads.processes t.heads.ends);
    }

-- "a table handed back by value with a refusal is all zeros"
unfoldable pub zero_table : Table
zero_table =
    record {
      cells = replicate cell_places 0;
      pool = replicate pool_places 0;
      heads =
          record {
            processes = 0;
            ends = replicate process_places 0;
            used = 0;
            encodes = false;
            encode = 0;
            two_stop_bits = false;
            omits = 0;
            omit = replicate omit_places 0;
            extension = replicate letter_places 0;
          };
    }
