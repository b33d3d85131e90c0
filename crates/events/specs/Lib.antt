-- Document 01, "Running": what each event does to the state, for every table and state there can be.
pub mod Events
pub mod Recording
pub mod Receiving
pub mod Gulps
-- as the code goes through it: nothing in there has to be believed
pub mod Inside
