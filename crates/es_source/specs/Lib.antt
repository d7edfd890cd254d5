pub mod Characters
pub mod Codes
pub mod Forms
pub mod Gaps
pub mod Laws
pub mod Places
pub mod Reading
pub mod Texts
