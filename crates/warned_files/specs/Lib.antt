pub mod Endpoints
pub mod Files
pub mod Known
pub mod Places
pub mod Unread
