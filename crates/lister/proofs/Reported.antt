-- SUCCESS WRITES ONLY THE BYTES IT REPORTS, AND A REFUSAL NONE. Assumes nothing.
use Rattle.std.specs.Prelude.{Ok, Err}
use Prim.Native.Nat.{ℕ, ◌+◌, ◌≤◌}
use mathlib.Core.Path.{◌≡◌, refl, ◌∙◌}
use mathlib.Core.Bool.{Bool, true, false, cond}
use mathlib.Core.List.{List, ◌++◌}
use native.Mathlib.Omega.{arith}
use lib.Dec.{leb}
use lib.ListN.{length, take, drop}
use lib.Seq.{sets, sets-eq, take_at, drop_at}
use borrow.Author.Tests.{le-leb}
use Rattle.language.specs.declared.Table.{Table}
use Rattle.accepted.specs.Accepted.{table_right}
use Rattle.lister.specs.Listed.{listing_of, list_answer, list_into}
use Rattle.lister.specs.declared.ListRefusal.{ListRefusal}
use Rattle.lister.specs.declared.ListRefusal.TheVariants.{BadTable, NoRoom}

module _ (t : Table) (d : List ℕ) (right : table_right t ≡ true) (room : length (listing_of t) ≤ length d) where
  in_front_lem : list_into t d ≡ listing_of t ++ drop (length (listing_of t)) d
  unfolding list_into
  in_front_lem =
      let z : 0 + length (listing_of t) ≡ length (listing_of t) = omega arith in
      let fits : 0 + length (listing_of t) ≤ length d = omega arith in
      rw (right, le-leb (length (listing_of t)) (length d) room) (sets-eq (listing_of t) d 0 fits ∙ rw z)

  pub listing_first : take (length (listing_of t)) (list_into t d) ≡ listing_of t
  listing_first = rw in_front_lem (take_at (listing_of t) _ (length (listing_of t)) refl)

  pub behind_kept : drop (length (listing_of t)) (list_into t d) ≡ drop (length (listing_of t)) d
  behind_kept = rw in_front_lem (drop_at (listing_of t) _ (length (listing_of t)) refl)

pub refusal_keeps : (t : Table) (d : List ℕ) (w : ListRefusal) → list_answer t d ≡ Err w → list_into t d ≡ d
unfolding list_answer list_into
refusal_keeps t d w = go (table_right t) (leb (length (listing_of t)) (length d))
  where
    go : (a b : Bool) → cond a (cond b (Ok (length (listing_of t))) (Err NoRoom)) (Err BadTable) ≡ Err w
        → cond a (cond b (sets d 0 (listing_of t)) d) d ≡ d
    go true true e = let z : ◌≡◌ {A = ℕ} 0 1 = cc in absurd (omega arith)
    go true false e = refl
    go false b e = refl
