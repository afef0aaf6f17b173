pub mod Agreement
pub mod Conforms
pub mod Lines
pub mod Logs
pub mod OwnLines
pub mod Seen
