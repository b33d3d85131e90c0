-- `lister::list` meets its contract: each way out is a law of `Listing`. Assumes nothing.
use mathlib.Core.Path.{sym, ◌∙◌}
use Rattle.language.specs.declared.Table.{Table}
use Rattle.lister.proofs.Fitting.{listing_room}
use Rattle.lister.proofs.Listing.{bad_table, no_room, wrote}
use Rattle.lister.proofs.list.Goals as goal
use Rattle.lister.proofs.list.Goals.{Start}

-- the table that is lent
abbrev table : Start → Table
table s = record { cells = s.args.cells.now; pool = s.args.pool.now; heads = s.args.heads }

pub listing_fits-requires : goal.listing_fits-requires
listing_fits-requires c =
    let t = table (goal.at.listing_fits-requires c).Start in
    let right = sym c.is_accepted.ensures ∙ c.if-not-is_accepted.false in
    listing_room t right

pub whole-requires : goal.whole-requires
whole-requires c =
    let t = table (goal.at.whole-requires c).Start in
    let right = sym c.is_accepted.ensures ∙ c.if-not-is_accepted.false in
    listing_room t right

pub returns-then-not-is_accepted : goal.returns-then-not-is_accepted
returns-then-not-is_accepted c = bad_table (table (goal.at.returns-then-not-is_accepted c).Start) _ c.is_accepted.ensures c.if-not-is_accepted.true

pub returns-then-not-listing_fits : goal.returns-then-not-listing_fits
returns-then-not-listing_fits c =
    no_room (table (goal.at.returns-then-not-listing_fits c).Start) _ c.is_accepted.ensures c.if-not-is_accepted.false
    c.listing_fits.ensures c.if-not-listing_fits.true

pub returns : goal.returns
returns c =
    wrote (table (goal.at.returns c).Start) _ c.is_accepted.ensures c.if-not-is_accepted.false
    c.listing_fits.ensures c.if-not-listing_fits.false c.whole.ensures
