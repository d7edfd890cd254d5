pub mod ArrayIndices
pub mod KeyLaws
pub mod Numerals
pub mod RoundTrip
mod SameText
pub mod SameValues
pub mod Tables
pub mod Trims
