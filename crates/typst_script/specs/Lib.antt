pub mod Command
pub mod CommandError
pub mod Done
pub mod Fails
pub mod Fault
pub mod Held
pub mod Path
pub mod Word
