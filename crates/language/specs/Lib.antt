-- Document 01 as definitions that compute, in its order: lines, what a line means, the script and its refusals, the table, the listing.
-- Nothing here looks at a place of a buffer; how the code finds its way is said in the crates that have the code.
pub mod Limits
pub mod Lines
pub mod Clock
pub mod Script
pub mod Meaning
pub mod Column
pub mod Stretch
pub mod Draft
pub mod Listing
pub mod Right
pub mod Cell
pub mod View
pub mod Table
pub mod Answer
-- as the code goes through it: nothing in there has to be believed
pub mod Inside
