pub mod Calls
pub mod Lending
pub mod Owned
pub mod Told
