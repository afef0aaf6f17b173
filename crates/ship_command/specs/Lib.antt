pub mod Ended
pub mod Run
pub mod Ship
