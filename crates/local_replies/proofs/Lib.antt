pub mod BehindLemmas
pub mod DoneLemmas
pub mod RouteLemmas
pub mod SeekLemmas
pub mod TableLemmas
