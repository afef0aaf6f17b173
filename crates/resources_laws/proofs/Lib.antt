pub mod ListLemmas
pub mod RowLemmas
pub mod NameLemmas
pub mod OrderLemmas
pub mod LineLemmas
pub mod LaterLemmas
