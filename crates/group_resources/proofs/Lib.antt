pub mod LineLemmas
pub mod DocumentLemmas
pub mod MemberLemmas
pub mod ReadingLemmas
pub mod MergedLemmas
