pub mod Lowest
pub mod Turning
pub mod Started
pub mod Written
pub mod Examples
