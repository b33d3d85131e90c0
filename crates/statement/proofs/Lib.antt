pub mod LoopCases
pub mod Neighbours
pub mod Examples
