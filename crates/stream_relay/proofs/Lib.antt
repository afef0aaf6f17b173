pub mod Bytes
pub mod Hands
pub mod Ends
pub mod Clients
pub mod Sizes
