pub mod Lines
pub mod Reading
pub mod Lists
pub mod Merged
