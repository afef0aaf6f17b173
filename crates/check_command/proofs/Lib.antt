mod BadLemmas
mod CheckLemmas
mod ConfigLemmas
mod FlagLemmas
mod ReviewLemmas
mod RunLemmas
