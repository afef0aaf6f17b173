pub mod Handles
pub mod Notices
