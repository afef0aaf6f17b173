pub mod Noted
pub mod Woven
