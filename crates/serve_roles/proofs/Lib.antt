mod ReadyLemmas
mod WalkLemmas
