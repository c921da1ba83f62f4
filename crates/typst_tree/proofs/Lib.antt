pub mod Refusals
pub mod PlainRuns
pub mod Runs
pub mod KeptPaths
pub mod Reading
pub mod MisfitLemmas
