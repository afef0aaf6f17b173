pub mod Example
pub mod Parts
pub mod Requests
pub mod Setup
pub mod Steps
pub mod Worlds
