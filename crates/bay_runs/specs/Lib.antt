pub mod Counts
pub mod Loop
pub mod Runs
