pub mod Steps
pub mod Each
pub mod Homes
pub mod Ends
pub mod Drains
pub mod OneLane
pub mod LaneLemmas
