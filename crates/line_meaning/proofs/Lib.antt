pub mod NameTables
pub mod WithoutData
-- data
pub mod Filling
-- names
pub mod Telling
pub mod Dataless
pub mod ByName
-- the line
pub mod Beginning
