pub mod Dates
pub mod Ids
