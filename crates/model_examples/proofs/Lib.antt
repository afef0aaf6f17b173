mod ActingRuns
mod Bodies
pub mod CutLemmas
pub mod DeterminedLemmas
pub mod KeptLemmas
mod ManagedRuns
mod Runs
mod Texts
pub mod TokenLemmas
pub mod ValueLemmas
