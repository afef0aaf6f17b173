pub mod AboutLemmas
pub mod FirstLemmas
pub mod MatchLemmas
