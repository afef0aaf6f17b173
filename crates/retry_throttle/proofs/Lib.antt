mod ApartLemmas
mod ClockLemmas
mod GiveLemmas
mod PauseLemmas
mod PostLemmas
mod TokenLemmas
mod WaitLemmas
