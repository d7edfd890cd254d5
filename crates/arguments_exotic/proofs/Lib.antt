pub mod ArgumentsWithin
pub mod Created
pub mod Defined
pub mod Kept
pub mod Parameters
pub mod SetAlike
pub mod Unmapped
