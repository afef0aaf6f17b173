pub mod AlikeSinks
pub mod TwoRuns
