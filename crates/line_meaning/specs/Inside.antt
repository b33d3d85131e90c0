-- What the private functions answer, as the code goes through it. Nothing here has to be believed.
pub mod Names
pub mod Signal
pub mod Found
pub mod Reading
pub mod Line
