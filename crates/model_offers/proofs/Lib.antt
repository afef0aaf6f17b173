mod OfferLemmas
mod OrderLemmas
mod TurnLemmas
