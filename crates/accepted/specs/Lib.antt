-- "no accepted script has this table": the exact test of a table.
pub mod Accepted
-- as the code goes through it: nothing in there has to be believed
pub mod Inside
