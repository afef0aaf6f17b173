pub mod Words
pub mod Config
pub mod Checks
pub mod Reviews
pub mod Answer
pub mod Run
pub mod Summed
