-- as the code goes through it: nothing in there has to be believed
pub mod Inside
