pub mod Definitions
pub mod Tree
