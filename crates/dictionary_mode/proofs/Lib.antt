pub mod Marks
pub mod Mending
pub mod Slots
pub mod Trees
