pub mod Fixed
pub mod Running
