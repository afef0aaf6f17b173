mod FileLemmas
mod FindLemmas
mod KeyLemmas
mod LawLemmas
mod RowLemmas
