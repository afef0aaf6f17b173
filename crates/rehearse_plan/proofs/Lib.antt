mod Named
pub mod Places
