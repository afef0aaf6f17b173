pub mod AnswerLemmas
pub mod HeadLemmas
pub mod ListLemmas
pub mod PieceLemmas
pub mod SectionLemmas
pub mod StartLineLemmas
