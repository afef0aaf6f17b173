pub mod Bays
pub mod Closing
pub mod Connection
pub mod Diaries
pub mod Ends
pub mod Exchange
pub mod Parts
pub mod Steps
