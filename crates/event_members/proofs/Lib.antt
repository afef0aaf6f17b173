pub mod LoopLemmas
pub mod MemberLemmas
pub mod StringLemmas
pub mod UserLemmas
pub mod ValueLemmas
pub mod WordLemmas
