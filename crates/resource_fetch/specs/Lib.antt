pub mod Version
pub mod Fetched
