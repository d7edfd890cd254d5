pub mod FiniteMaps
pub mod Holes
pub mod Listed
pub mod Steps
pub mod Stores
pub mod Trees
