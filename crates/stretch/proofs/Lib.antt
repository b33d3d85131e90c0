pub mod Marking
pub mod Measuring
pub mod Reports
pub mod Scripts
pub mod Verdicts
pub mod Places
pub mod Cases
pub mod Others
