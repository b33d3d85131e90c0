-- the laws that crates above cite
pub mod Moved
pub mod Final
pub mod Runs
pub mod HexPlace
-- a digit, and the states of the loops
pub mod Pairs
pub mod Stepping
