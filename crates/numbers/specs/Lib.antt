-- Document 01, "Lines", as far as it speaks of numbers: what a reader finds at a place of some bytes.
pub mod Number
-- as the code goes through it: nothing in there has to be believed
pub mod Inside
