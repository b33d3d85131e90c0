-- Document 01, "Longest stretch": the written-out form of a fragment, its runs and its figures. No table and no script is known here.
pub mod Cap
pub mod Fragment
pub mod Flat
pub mod Written
pub mod Stretch
pub mod Figures
pub mod Cases
-- as the code goes through it: nothing in there has to be believed
pub mod Inside
