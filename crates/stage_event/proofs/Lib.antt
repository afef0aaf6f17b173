pub mod KeptLemmas
pub mod ViewLemmas
