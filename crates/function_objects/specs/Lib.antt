pub mod Constructing
pub mod Laws
pub mod Making
pub mod Receivers
