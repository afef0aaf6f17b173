pub mod Act
pub mod Carried
pub mod Fault
pub mod File
pub mod Places
pub mod Who
