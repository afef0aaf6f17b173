pub mod Lanes
pub mod Offering
pub mod Taken
