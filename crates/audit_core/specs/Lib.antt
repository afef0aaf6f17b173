pub mod Answer
pub mod Errand
pub mod Exchange
pub mod Offers
pub mod Owed
pub mod Route
pub mod Routing
pub mod Unread
