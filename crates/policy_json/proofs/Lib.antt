pub mod ListLemmas
pub mod SizeLemmas
