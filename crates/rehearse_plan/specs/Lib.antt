pub mod Files
pub mod Kinds
pub mod Planned
pub mod Requests
pub mod Summary
pub mod Words
