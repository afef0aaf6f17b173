pub mod Documents
pub mod Groups
pub mod Kept
pub mod Lent
pub mod Order
