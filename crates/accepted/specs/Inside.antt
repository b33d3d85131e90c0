-- What the private functions answer, as the code goes through it. Nothing here has to be believed.
pub mod Lines
pub mod Heads
pub mod Cells
pub mod EndsFit
pub mod CellsFit
