-- What the demands come to, as claims over the definitions of the other crates.
pub mod Demand1
pub mod Demand2
pub mod Turns
pub mod Agrees
pub mod Settled
pub mod Cases
pub mod Columns
pub mod Gulps
