mod BeginLemmas
mod FinishLemmas
mod HandlingLemmas
mod StartLemmas
