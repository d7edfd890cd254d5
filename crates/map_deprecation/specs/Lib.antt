pub mod Classes
pub mod Generalising
pub mod Moves
pub mod Updating
pub mod Words
