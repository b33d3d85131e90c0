-- Document 01, "Running": what one statement does to its process and what it says, for every table and process there can be.
pub mod Ways
pub mod Loops
pub mod Joining
pub mod Moving
pub mod Saying
-- as the code goes through it: nothing in there has to be believed
pub mod Inside
