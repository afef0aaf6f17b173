pub mod RunLemmas
pub mod ConfigLemmas
pub mod OrderLemmas
pub mod WordsLemmas
