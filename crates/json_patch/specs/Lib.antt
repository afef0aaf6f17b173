pub mod Merge
pub mod Order
pub mod Patched
