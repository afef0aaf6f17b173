pub mod Buffered
pub mod Exchanges
pub mod Hooks
pub mod Lists
pub mod Posts
pub mod Replies
pub mod Hooked
pub mod Accounts
