pub mod Loops
pub mod Matches
pub mod Numbers
pub mod Examples
