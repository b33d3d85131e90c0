-- Document 01, "Running": what each event does to a process and to the state, for every pool and state there can be.
pub mod Matching
pub mod Waiting
pub mod State
pub mod Answers
