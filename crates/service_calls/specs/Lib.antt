pub mod Calls
pub mod Contacts
pub mod Fetched
pub mod Request
