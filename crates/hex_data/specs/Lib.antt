-- Document 01, "Lines", as far as it speaks of hex data.
pub mod Hex
-- as the code goes through it: nothing in there has to be believed
pub mod Inside
