pub mod Limits
pub mod Positions
pub mod Readings
pub mod Scanning
pub mod Stops
