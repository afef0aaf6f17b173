pub mod Changes
pub mod Index
pub mod Order
pub mod Services
pub mod Table
