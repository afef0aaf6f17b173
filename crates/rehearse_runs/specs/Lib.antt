pub mod Agrees
pub mod Handles
pub mod Outcome
pub mod Served
pub mod Told
