-- parts of a slice, words and blanks
pub mod Cuts
-- what stands after the names of settings
pub mod Encoding
pub mod Extension
pub mod Timing
pub mod ClockUnits
pub mod Clocking
