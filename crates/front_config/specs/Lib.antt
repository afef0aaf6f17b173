pub mod Load
pub mod Words
