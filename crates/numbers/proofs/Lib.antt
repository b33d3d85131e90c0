-- the laws that crates above cite
pub mod Moved
pub mod Final
pub mod NumberPlace
pub mod PairPlace
-- the states of the loops
pub mod Digit
pub mod Reading
pub mod Pairs
