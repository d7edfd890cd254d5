pub mod Cells
pub mod Registered
pub mod Sound
