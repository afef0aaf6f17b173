pub mod Watching
pub mod Status
