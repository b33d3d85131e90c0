-- Demand 3, as a claim over the definitions of the other crates.
pub mod Replies
pub mod Demand3
