pub mod GroupLemmas
pub mod JoinLemmas
pub mod KeptLemmas
pub mod LentLemmas
pub mod OrderLemmas
pub mod SortLemmas
pub mod TreeLemmas
