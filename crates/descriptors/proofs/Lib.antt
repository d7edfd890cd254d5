pub mod SameFields
pub mod Standing
pub mod Changes
