-- Document 01, "Running", of the script itself; what it comes to; and the claim that what runs is the script.
pub mod Joined
pub mod Running
pub mod Joins
pub mod Waits
pub mod Passes
pub mod Called
pub mod Agreement
pub mod Neighbours
