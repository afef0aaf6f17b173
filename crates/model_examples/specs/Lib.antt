pub mod Acting
pub mod Managed
pub mod Served
