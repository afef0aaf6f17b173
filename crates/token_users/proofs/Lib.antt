mod ActLemmas
mod CarriedLemmas
mod FileLemmas
mod KeptLemmas
mod PlaceLemmas
mod RecordLemmas
mod RowLemmas
mod UserLemmas
