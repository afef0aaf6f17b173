pub mod Begun
pub mod Due
pub mod Events
pub mod Kept
pub mod Views
