pub mod Fault
pub mod Object
pub mod Row
pub mod RowList
