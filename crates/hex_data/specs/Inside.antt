-- What the private functions answer, as the code goes through it. Nothing here has to be believed.
pub mod Steps
pub mod Said
