pub mod Lists
pub mod Ran
