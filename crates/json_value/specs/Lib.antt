pub mod Head
pub mod Members
pub mod Read
pub mod Results
pub mod Size
