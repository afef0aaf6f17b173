pub mod Exposition
pub mod Metrics
