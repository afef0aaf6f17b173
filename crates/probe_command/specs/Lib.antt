pub mod Config
pub mod Listing
pub mod Probe
pub mod Run
pub mod Token
