-- the laws that crates above cite
pub mod Once
pub mod Tests
pub mod Same
pub mod Digits
pub mod Solid
pub mod Placing
pub mod Each
pub mod FirstBad
