pub mod KeptReads
pub mod KeptWrites
pub mod KeptKeys
pub mod KeptProtos
pub mod RoundsEnd
pub mod OrdinaryWithin
pub mod Kept
pub mod Walks
