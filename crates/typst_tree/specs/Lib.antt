pub mod Step
pub mod Found
pub mod Run
pub mod Kept
pub mod Reads
pub mod Edits
