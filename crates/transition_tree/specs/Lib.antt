pub mod Edges
pub mod Laws
pub mod Paths
pub mod Rows
pub mod Tables
pub mod Together
