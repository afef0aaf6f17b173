pub mod CountLemmas
pub mod MadeLemmas
pub mod PlaceLemmas
