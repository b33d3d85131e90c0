-- the laws that crates above cite
pub mod Solid
pub mod Places
-- the states of the loops
pub mod Passing
