pub mod Ranges
pub mod ReadBack
pub mod TextMembers
pub mod Values
