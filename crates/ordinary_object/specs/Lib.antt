pub mod Laws
pub mod Names
pub mod Ordinary
pub mod Rests
pub mod Rounds
pub mod Serving
