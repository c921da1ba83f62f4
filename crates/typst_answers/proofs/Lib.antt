pub mod Faults
pub mod Remarks
