pub mod Adding
pub mod Copies
pub mod Prefixes
