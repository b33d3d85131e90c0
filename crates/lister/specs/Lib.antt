-- What the lister answers and writes.
pub mod Listed
-- as the code goes through it: nothing in there has to be believed
pub mod Inside
