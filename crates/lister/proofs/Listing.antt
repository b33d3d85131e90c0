-- A BUFFER OF LISTING BYTES IS NEVER REFUSED WITH 26; and the ways out of the lister. Assumes nothing.
use Rattle.std.specs.Prelude.{Ok, Err}
use Prim.Native.Nat.{ℕ, ◌≤◌}
use mathlib.Core.Path.{◌≡◌, sym, ap, ◌∙◌}
use mathlib.Core.Bool.{Bool, true, false}
use mathlib.Core.List.{List}
use native.Mathlib.Omega.{arith}
use lib.Dec.{leb}
use lib.ListN.{length}
use borrow.Author.Tests.{le-leb}
use Rattle.language.specs.declared.Table.{Table}
use Rattle.accepted.specs.Accepted.{table_right}
use Rattle.lister.specs.Inside.Printed.{Printed}
use Rattle.lister.specs.Listed.{listing_of, list_answer, list_into}
use Rattle.lister.proofs.Fitting.{listing_few}
use Rattle.lister.specs.declared.ListRefusal.TheVariants.{BadTable, NoRoom}
use Rattle.language.specs.Limits.{listing_limit}

-- a buffer of LISTING bytes is large enough
pub room_always : (t : Table) → table_right t ≡ true → (d : List ℕ) → listing_limit ≤ length d → list_answer t d ≡ Ok (length (listing_of t))
unfolding list_answer
room_always t right d h =
    let l : length (listing_of t) ≤ length d = omega (arith, listing_few t right) in
    rw (right, le-leb (length (listing_of t)) (length d) l)

module _ (t : Table) (d : List ℕ) {a : Bool} (told : a ≡ table_right t) where
  pub bad_table : a ≡ false → (Err BadTable ≡ list_answer t d) × (d ≡ list_into t d)
  unfolding list_answer list_into
  bad_table e = (rw (sym told ∙ e), rw (sym told ∙ e))

  module _ (right : a ≡ true) {f : Bool} (room : f ≡ leb (length (listing_of t)) (length d)) where
    pub no_room : f ≡ false → (Err NoRoom ≡ list_answer t d) × (d ≡ list_into t d)
    unfolding list_answer list_into
    no_room e = (rw (sym told ∙ right, sym room ∙ e), rw (sym told ∙ right, sym room ∙ e))

    pub wrote : f ≡ true → {n : ℕ} {e : List ℕ} → Printed (listing_of t) d 0 n e → (Ok n ≡ list_answer t d) × (e ≡ list_into t d)
    unfolding list_answer list_into
    wrote h {n} p =
        let k : n ≡ length (listing_of t) = omega (arith, p.place) in
        (ap Ok k ∙ rw (sym told ∙ right, sym room ∙ h), p.written ∙ rw (sym told ∙ right, sym room ∙ h))
