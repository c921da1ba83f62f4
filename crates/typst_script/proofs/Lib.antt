pub mod Blanks
pub mod Indices
pub mod KindTable
pub mod Lines
pub mod Shown
