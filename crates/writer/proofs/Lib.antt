-- the laws that crates above cite
pub mod Decimals
pub mod Hexes
pub mod Back
pub mod Joined
-- the states of the loops
pub mod Writing
pub mod Widths
