mod BayLemmas
mod DrainLemmas
mod KeepLemmas
mod KeptLaneLemmas
mod KeptTellLemmas
mod FullLemmas
mod LaneLemmas
mod LinkLemmas
mod NumberLemmas
mod RecordLemmas
mod ShareLemmas
pub mod SinkLemmas
mod StatusLemmas
mod TellLemmas
mod TryLemmas
mod WrittenLemmas
