pub mod DayLemmas
pub mod IdLemmas
pub mod MomentLemmas
pub mod Padding
