pub mod Longest
pub mod Phases
