pub mod More
pub mod One
