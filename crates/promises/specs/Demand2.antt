-- Demand 2, what no single function says: "A listing printed from a table compiles to that same table", and "The compiler reports the
-- largest stretch of any process", by the written-out form. Assumes nothing: these are definitions.
use Rattle.std.specs.Prelude.{ℕ, Ok}
use Rattle.language.specs.declared.Table.{Table}
use Rattle.language.specs.Listing.{listing}
use Rattle.language.specs.Table.{script_of}
use Rattle.stretch.specs.Reported.{Reported}
use Rattle.bounded.specs.Replies.{Compiles}

-- of a table that some text compiles to, with the stretch k
pub record Faithful (t : Table) (k : ℕ) : Type 0 where
  pub listed : Compiles (listing (script_of t)) t k
  pub stretch : Reported t.cells t.heads (Ok k)
