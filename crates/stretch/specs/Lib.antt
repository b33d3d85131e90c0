-- The stretch of the processes of a table.
pub mod Marks
pub mod Reported
pub mod Cases
-- as the code goes through it: nothing in there has to be believed
pub mod Inside
