pub mod Bare
pub mod Turns
