-- Tables that no accepted script has, computed, beside one that a script has. Assumes nothing.
use Prim.Native.Nat.{ℕ, ◌+◌, ◌-◌}
use mathlib.Core.Path.{◌≡◌, refl}
use mathlib.Core.Bool.{Bool, true, false}
use mathlib.Core.List.{List, [], ◌∷◌, ◌++◌}
use lib.ListN.{replicate}
use Rattle.reader.specs.Bytes as bytes
use Rattle.language.specs.declared.Table.{Table}
use Rattle.language.specs.Cell as cell
use Rattle.language.specs.Right as right
use Rattle.language.specs.Table as table
use Rattle.language.specs.Table.{zero_table}
use Rattle.language.proofs.Opened.{printed}
use Rattle.accepted.specs.Accepted.{same_heads, same_table, table_right}

-- "a table handed back by value with a refusal is all zeros": no accepted script has it, since it has no process
pub zeros_unaccepted : table_right zero_table ≡ false
unfolding table_right same_table same_heads table.zero_table table.settings_of table.letters_of table.body_from table.items_of table.script_of table.words_from table.pool_of table.ends_from table.heads_of table.laid_out bytes.same
zeros_unaccepted = refl

-- the table of `#NOP`, with other cells, other data, so many processes, another end of the first, so many bytes of data, so many OMIT bytes, other letters
abbrev holding : List ℕ → List ℕ → ℕ → ℕ → ℕ → ℕ → List ℕ → Table
holding cells pool processes end used omits extension =
    record {
      cells = cells;
      pool = pool;
      heads =
          record {
            processes = processes;
            ends = end ∷ replicate 7 0;
            used = used;
            encodes = false;
            encode = 0;
            two_stop_bits = false;
            omits = omits;
            omit = replicate 10 0;
            extension = extension;
          };
    }

-- `#NOP` in the first cell, zeros in the others
abbrev nop : List ℕ
nop = 939524096 ∷ replicate 511 0

abbrev zeros : List ℕ
zeros = replicate 1024 0

-- LOG, the extension where no f: line sets one
abbrev letters : List ℕ
letters = 76 ∷ 79 ∷ 71 ∷ []

-- the table of `#NOP`
abbrev pub nop_table : Table
nop_table = holding nop zeros 1 1 0 0 letters

-- the table of a WAIT DATA of so many bytes, an LF first and the one given last
abbrev waiting : ℕ → ℕ → Table
waiting count last =
    holding ((335544320 + count) ∷ replicate 511 0) (10 ∷ (replicate (count - 2) 65 ++ last ∷ replicate (1024 - count) 0)) 1 1 count 0 letters

-- a table, and whether some accepted script has it
abbrev Tables : List (Table × Bool) → Type 0
Tables [] = Unit {0}
Tables (c ∷ cs) = (table_right c.0 ≡ c.1) × Tables cs

abbrev tables : List (Table × Bool)
tables =
    (nop_table, true)
    -- a cell in use that says nothing, one that is unknown, and one after the last
    ∷ (holding (replicate 512 0) zeros 1 1 0 0 letters, false)
    ∷ (holding (1006632960 ∷ replicate 511 0) zeros 1 1 0 0 letters, false)
    ∷ (holding (939524096 ∷ 939524096 ∷ replicate 510 0) zeros 1 1 0 0 letters, false)
    -- a byte of data that no statement has; bytes used that are none
    ∷ (holding nop (65 ∷ replicate 1023 0) 1 1 0 0 letters, false)
    ∷ (holding nop zeros 1 1 1 0 letters, false)
    -- no process; an end before the statement
    ∷ (holding nop zeros 0 1 0 0 letters, false)
    ∷ (holding nop zeros 1 0 0 0 letters, false)
    -- ten OMIT bytes, and eleven
    ∷ (holding nop zeros 1 1 0 10 letters, true)
    ∷ (holding nop zeros 1 1 0 11 letters, false)
    -- one letter, and none; a small letter
    ∷ (holding nop zeros 1 1 0 0 (90 ∷ 0 ∷ 0 ∷ []), true)
    ∷ (holding nop zeros 1 1 0 0 (0 ∷ 0 ∷ 0 ∷ []), false)
    ∷ (holding nop zeros 1 1 0 0 (122 ∷ 0 ∷ 0 ∷ []), false)
    -- 57 bytes with an LF among them; 58, the last below 10h, and not; 59
    ∷ (waiting 57 16, true)
    ∷ (waiting 58 15, true)
    ∷ (waiting 58 16, false)
    ∷ (waiting 59 15, false)
    ∷ []

tables_hold : Tables tables
unfolding printed table_right same_table same_heads right.is_byte right.in_line right.data_right right.time_right right.in_ranges right.clock_right right.log_right right.right right.encode_right right.settings_right right.all_right right.data_in right.nexts_in right.may_nest right.depth_after right.nests right.all_below right.script_right table.cell_for table.words_from table.pool_of table.ends_from table.heads_of table.laid_out table.statement_of table.items_of table.body_from table.letters_of table.settings_of table.script_of table.zero_table cell.span_number cell.clock_number cell.coded cell.span_right cell.unit_right cell.fixed_right cell.cell_of cell.decoded cell.clock_from cell.fixed_units
tables_hold = (refl, (refl, (refl, (refl, (refl, (refl, (refl, (refl, (refl, (refl, (refl, (refl, (refl, (refl, (refl, (refl, (refl, tt)))))))))))))))))

pub nop_accepted : table_right nop_table ≡ true
nop_accepted = tables_hold.0
