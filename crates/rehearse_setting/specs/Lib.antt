pub mod Sent
pub mod Setting
