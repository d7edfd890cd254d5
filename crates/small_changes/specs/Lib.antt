pub mod Changed
pub mod Laws
pub mod Noted
pub mod Start
pub mod Verdicts
pub mod Worlds
