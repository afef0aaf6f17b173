pub mod Causes
pub mod Made
pub mod Ran
pub mod Served
pub mod Status
