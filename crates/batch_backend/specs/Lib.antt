pub mod Batches
pub mod Closes
pub mod Pumps
pub mod Flushes
