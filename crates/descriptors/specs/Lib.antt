pub mod Sameness
pub mod Kinds
pub mod Completion
pub mod Validation
