pub mod Bound
pub mod Constructed
pub mod ConstructorOrigins
pub mod Links
pub mod Made
