pub mod Asked
pub mod Flag
pub mod Options
pub mod Parser
pub mod Spelling
