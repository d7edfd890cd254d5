pub mod KeptAll
pub mod Within
pub mod Models
