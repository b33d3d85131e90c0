-- words: the states of the loops
pub mod Agreeing
pub mod Lettering
pub mod Clocked
-- data and text behind a name
pub mod Marks
pub mod Signing
-- an argument of one word
pub mod Faults
pub mod Words
-- names
pub mod Naming
pub mod Lines
