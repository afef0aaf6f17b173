pub mod Words
pub mod Order
pub mod Notes
pub mod Previous
pub mod Config
pub mod Run
