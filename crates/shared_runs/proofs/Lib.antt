mod EndLemmas
mod HistoryLemmas
mod RunLemmas
mod WalkLemmas
