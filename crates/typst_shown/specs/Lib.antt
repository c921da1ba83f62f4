pub mod PlacedEdit
pub mod Report
pub mod Rows
