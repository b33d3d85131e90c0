-- Document 01, "Running": what start does and answers, what a drain does and answers, for every table, state, counts and buffer there
-- can be; a call of any kind.
pub mod Starting
pub mod Writing
pub mod Turns
pub mod Draining
pub mod Calls
-- as the code goes through it: nothing in there has to be believed
pub mod Inside
