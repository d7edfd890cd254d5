pub mod Jobs
pub mod Served
pub mod Steps
pub mod Entered
pub mod Loops
pub mod Printing
