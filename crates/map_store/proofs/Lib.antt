pub mod Changes
pub mod Grow
pub mod Kept
