pub mod Counts
pub mod Rate
