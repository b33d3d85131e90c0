-- THE LISTER'S TWO REFUSALS HAVE TWO NUMBERS, document 01's: 25, then 26. Assumes nothing.
use Rattle.std.specs.Prelude.{Ok, Err}
use Prim.Native.Nat.{ℕ}
use mathlib.Core.Path.{◌≡◌, refl, sym, ap, ◌∙◌}
use mathlib.Core.Bool.{cond}
use mathlib.Core.List.{List, [], ◌∷◌, map}
use lib.ListN.{replicate}
use lib.Dec.{eqb}
use Rattle.reader.specs.Ascii.{ascii}
use Rattle.language.specs.Cell as cell
use Rattle.language.specs.Table as table
use Rattle.language.specs.Table.{zero_table}
use Rattle.language.proofs.Opened.{printed}
use Rattle.accepted.proofs.Examples.{zeros_unaccepted, nop_table, nop_accepted}
use Rattle.lister.specs.declared.ListRefusal.{ListRefusal}
use Rattle.lister.specs.declared.ListRefusal.TheVariants.{BadTable, NoRoom}
use Rattle.lister.specs.Listed.{list_answer, list_into, list_refusal_number}

the_numbers : map list_refusal_number (BadTable ∷ NoRoom ∷ []) ≡ 25 ∷ 26 ∷ []
unfolding list_refusal_number
the_numbers = refl

-- the refusal of a number
abbrev refusal_of : ℕ → ListRefusal
refusal_of n = cond (eqb n 25) BadTable NoRoom

told : (r : ListRefusal) → refusal_of (list_refusal_number r) ≡ r
unfolding list_refusal_number
told BadTable = refl
told NoRoom = refl

pub list_numbers_differ : (r s : ListRefusal) → list_refusal_number r ≡ list_refusal_number s → r ≡ s
list_numbers_differ r s e = sym (told r) ∙ ap refusal_of e ∙ told s

-- "The lister tests 25, then 26": the table of zeros is 25 whatever the buffer, and the buffer is left as it was
pub zeros_are_refused : (out : List ℕ) → (list_answer zero_table out ≡ Err BadTable) × (list_into zero_table out ≡ out)
unfolding list_answer list_into
zeros_are_refused out = (rw zeros_unaccepted, rw zeros_unaccepted)

-- "listing buffer too small": `#NOP`, CR and LF are 6 bytes
small_buffer : (list_answer nop_table (replicate 5 0) ≡ Err NoRoom) × (list_into nop_table (replicate 5 0) ≡ replicate 5 0)
unfolding list_answer list_into printed cell.cell_of cell.decoded table.settings_of table.letters_of table.statement_of table.items_of table.body_from table.script_of
small_buffer = (rw nop_accepted, rw nop_accepted)

buffer_of_six : (list_answer nop_table (replicate 6 0) ≡ Ok 6) × (list_into nop_table (replicate 6 0) ≡ ascii "#NOP\r\n")
unfolding list_answer list_into printed cell.cell_of cell.decoded table.settings_of table.letters_of table.statement_of table.items_of table.body_from table.script_of
buffer_of_six = (rw nop_accepted, rw nop_accepted)
