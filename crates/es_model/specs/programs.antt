-- Programs that many algorithms share.
pub mod Abrupt
pub mod Converting
pub mod Errors
pub mod Methods
pub mod Testing
pub mod Texts
