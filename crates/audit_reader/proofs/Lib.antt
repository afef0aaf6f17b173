pub mod PartLemmas
pub mod RoundTripLemmas
