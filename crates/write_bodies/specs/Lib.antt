pub mod Deletion
pub mod Directives
