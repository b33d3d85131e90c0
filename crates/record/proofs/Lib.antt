pub mod Signs
pub mod Putting
pub mod Cutting
pub mod Examples
