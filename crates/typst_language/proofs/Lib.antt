pub mod Levels
pub mod Made
mod Plains
