-- A LISTING HAS AT MOST 13,670 BYTES. Assumes nothing.
use Prim.Native.Nat.{◌≤◌}
use mathlib.Core.Path.{◌≡◌}
use mathlib.Core.Bool.{true}
use native.Mathlib.Omega.{arith}
use lib.ListN.{length}
use Rattle.language.specs.declared.Table.{Table}
use Rattle.language.specs.Limits.{listing_limit}
use Rattle.language.specs.Stretch.{stretch_of}
use Rattle.language.specs.Table.{script_of}
use Rattle.language.proofs.Good.{Good, good}
use Rattle.language.proofs.Size.{listing_size}
use Rattle.accepted.specs.Accepted.{table_right}
use Rattle.accepted.proofs.Exactly.{script_right_lem}
use Rattle.lister.specs.Inside.Printed.{FitsListing}
use Rattle.lister.specs.Listed.{listing_of}

module _ (t : Table) (right : table_right t ≡ true) where
  is_good_lem : Good stretch_of (script_of t)
  is_good_lem = good stretch_of (script_of t) (script_right_lem t right)

  pub listing_few : length (listing_of t) ≤ listing_limit
  listing_few = listing_size stretch_of (script_of t) is_good_lem

  pub listing_room : FitsListing 0 (listing_of t)
  listing_room = record { fits = omega (arith, listing_few) }
