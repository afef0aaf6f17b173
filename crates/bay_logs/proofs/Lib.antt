mod KeptLemmas
mod NotedLemmas
mod OwedLemmas
mod PartLemmas
mod WeaveLemmas
