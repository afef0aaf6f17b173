pub mod Keep
pub mod Stream
pub mod Relay
pub mod Hand
