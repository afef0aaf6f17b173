mod JoinLemmas
mod LaneLemmas
mod OfferLemmas
mod OutcomeLemmas
mod StageLemmas
mod TakenLemmas
