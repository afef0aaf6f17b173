pub mod Apart
pub mod Buckets
pub mod Clocks
pub mod Pauses
pub mod Sendings
pub mod Senders
pub mod Shippings
pub mod Tokens
