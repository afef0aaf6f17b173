pub mod About
pub mod Matching
pub mod Policy
