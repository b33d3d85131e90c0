-- Document 01, "Running": the text of a LOG record.
pub mod Logging
-- as the code goes through it: nothing in there has to be believed
pub mod Inside
