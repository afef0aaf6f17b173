pub mod Client
pub mod Own
pub mod Sent
pub mod Statuses
pub mod Streams
pub mod Writing
