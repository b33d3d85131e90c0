-- What the lister answers. "The lister tests 25, then 26": "no accepted script has this table", "listing buffer too small". A refusal
-- alters no byte.
use Rattle.std.specs.Prelude.{ℕ, cond, List, length, leb, Result, Ok, Err}
use Rattle.std.proofs.lemmas.List.Edits.{sets}
use Rattle.language.specs.declared.Table.{Table}
use Rattle.accepted.specs.Accepted.{table_right}
use Rattle.lister.specs.declared.ListRefusal.{ListRefusal}
use Rattle.lister.specs.declared.ListRefusal.TheVariants.{BadTable, NoRoom}
use Rattle.language.specs.Listing.{listing}
use Rattle.language.specs.Table.{script_of}

-- the listing of a table
abbrev pub listing_of : Table → List ℕ
listing_of t = listing (script_of t)

-- the table is tested first, then the room
unfoldable pub list_answer : Table → List ℕ → Result ℕ ListRefusal
list_answer t d =
    cond (table_right t)
    (cond (leb (length (listing_of t)) (length d)) (Ok (length (listing_of t))) (Err NoRoom))
    (Err BadTable)

-- what the buffer holds after it: the listing at its front, and nothing else is altered
unfoldable pub list_into : Table → List ℕ → List ℕ
list_into t d = cond (table_right t) (cond (leb (length (listing_of t)) (length d)) (sets d 0 (listing_of t)) d) d

-- the numbers of the refusals
unfoldable pub list_refusal_number : ListRefusal → ℕ
list_refusal_number BadTable = 25
list_refusal_number NoRoom = 26
