pub mod Fault
pub mod File
pub mod Find
pub mod Key
