mod ExchangeLemmas
mod JudgedLemmas
mod OwedLemmas
mod RoutingLemmas
mod StoryLemmas
mod TrialLemmas
mod UserLemmas
