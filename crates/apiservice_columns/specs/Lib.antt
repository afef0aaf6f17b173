pub mod Accept
pub mod Age
pub mod Cells
