-- "no accepted script has this table" (25 for start and lister), as a test that computes: the table is the one that the script read
-- from it is laid out in, and that script is one that some text has.
use Rattle.std.specs.Prelude.{Bool, true, false, ◌&&◌, eqb}
use Rattle.reader.specs.Bytes.{same}
use Rattle.language.specs.declared.Heads.{Heads}
use Rattle.language.specs.declared.Table.{Table}
use Rattle.language.specs.Stretch.{stretch_of}
use Rattle.language.specs.Right.{script_right}
use Rattle.language.specs.Table.{laid_out, script_of}

-- two flags agree
abbrev pub same_flag : Bool → Bool → Bool
same_flag true b = b
same_flag false true = false
same_flag false false = true

-- two heads agree in every field
unfoldable pub same_heads : Heads → Heads → Bool
same_heads h k =
    eqb h.processes k.processes
    && (same h.ends k.ends
    && (eqb h.used k.used
    && (same_flag h.encodes k.encodes
    && (eqb h.encode k.encode
    && (same_flag h.two_stop_bits k.two_stop_bits
    && (eqb h.omits k.omits
    && (same h.omit k.omit && same h.extension k.extension)))))))

-- two tables agree in every cell, every byte and their heads
unfoldable pub same_table : Table → Table → Bool
same_table t u = same t.cells u.cells && (same t.pool u.pool && same_heads t.heads u.heads)

-- some accepted script has this table: the one it reads as is right, and laid out it is this very table
unfoldable pub table_right : Table → Bool
table_right t = same_table (laid_out (script_of t)) t && script_right stretch_of (script_of t)
