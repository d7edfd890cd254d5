pub mod Arguments
pub mod Creating
pub mod Serving
pub mod Turns
