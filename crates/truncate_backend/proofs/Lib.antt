pub mod CopyLemmas
pub mod FitLemmas
pub mod NoteLemmas
pub mod OwnLemmas
pub mod TryLemmas
pub mod SentLemmas
