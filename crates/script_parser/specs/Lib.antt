pub mod Contract
pub mod Progress
pub mod Settling
pub mod State
