-- Document 01's numbers, each named once: how much a script may have, and how long the arrays are that hold it.
use Rattle.std.specs.Prelude.{leb, Bool, ℕ, ◌-◌}
use Rattle.figures.specs.Flat.{deepest}
use Rattle.language.specs.declared.limits.Limits.{Limits}

-- "Text 65,536 bytes"
abbrev pub text_limit : ℕ
text_limit = 65536

-- "At most 127 per line, comments too"
abbrev pub line_limit : ℕ
line_limit = 127

-- "At most 512 lines besides comments"
abbrev pub lines_limit : ℕ
lines_limit = 512

-- "data of data lines, WAIT DATA and LOG (as written) 1,024 bytes in all"
abbrev pub data_limit : ℕ
data_limit = 1024

-- "10 OMIT bytes, repeats counted"
abbrev pub omit_limit : ℕ
omit_limit = 10

-- "8 loops deep"
abbrev pub loop_limit : ℕ
loop_limit = deepest

-- "8 processes"
abbrev pub process_limit : ℕ
process_limit = 8

-- "1 to 3 letters or digits"
abbrev pub letter_limit : ℕ
letter_limit = 3

-- "0 (CTS) or 1 to 4 (EX)": so many signals
abbrev pub signals : ℕ
signals = 5

-- "drain buffer under 128 bytes" 24: the least that a drain is lent
abbrev pub drain_least : ℕ
drain_least = 128

-- a buffer that a drain takes
abbrev pub wide : ℕ → Bool
wide room = leb drain_least room

-- the longest listing of any accepted script: no shorter buffer takes them all
abbrev pub listing_limit : ℕ
listing_limit = 13670

-- ---- what a line of 127 has room for

-- after the mark of a data line
abbrev pub send_room : ℕ
send_room = line_limit - 1

-- after `#WAIT DATA ` and a mark
abbrev pub wait_room : ℕ
wait_room = line_limit - 12

-- after `#LOG `
abbrev pub log_room : ℕ
log_room = line_limit - 5

-- ---- how long the arrays of a table and of a state are: no shorter than what a script may have

-- a cell for each written statement line
abbrev pub cell_places : ℕ
cell_places = lines_limit

-- the bytes of the data
abbrev pub pool_places : ℕ
pool_places = data_limit

-- the ends of the processes, and the processes of a state
abbrev pub process_places : ℕ
process_places = process_limit

-- the open loops of a process
abbrev pub loop_places : ℕ
loop_places = loop_limit

-- the OMIT bytes
abbrev pub omit_places : ℕ
omit_places = omit_limit

-- the letters of LFEXT
abbrev pub letter_places : ℕ
letter_places = letter_limit

-- ---- the same in code

-- what the constants of the code are
abbrev pub limits : Limits
limits =
    record {
      text = text_limit;
      line = line_limit;
      lines = lines_limit;
      «data» = data_limit;
      loops = loop_limit;
      processes = process_limit;
      omits = omit_limit;
      letters = letter_limit;
      signals = signals;
      drain = drain_least;
      listing = listing_limit;
      send_room = send_room;
      wait_room = wait_room;
      log_room = log_room;
      cell_places = cell_places;
      pool_places = pool_places;
      process_places = process_places;
      loop_places = loop_places;
      omit_places = omit_places;
      letter_places = letter_places;
    }
