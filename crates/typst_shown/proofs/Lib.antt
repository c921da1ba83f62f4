pub mod Counts
pub mod RowFacts
pub mod Windows
