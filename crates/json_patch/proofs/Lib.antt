pub mod Changes
pub mod Entries
pub mod MergeLaws
pub mod Names
pub mod Same
