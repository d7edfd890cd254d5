pub mod Along
pub mod Changes
pub mod ComeBack
pub mod Falling
pub mod Generalised
pub mod Givers
pub mod Growing
