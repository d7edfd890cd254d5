pub mod Keys
pub mod Records
pub mod Views
