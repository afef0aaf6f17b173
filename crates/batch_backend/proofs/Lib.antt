pub mod TryLaws
pub mod AddLemmas
pub mod LossLemmas
pub mod PumpLemmas
pub mod PartLemmas
pub mod FlushLemmas
pub mod CloseLemmas
pub mod SentLemmas
