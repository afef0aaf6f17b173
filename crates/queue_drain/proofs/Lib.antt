mod TurnLemmas
mod AccountLemmas
