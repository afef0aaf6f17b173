mod RunLemmas
mod StartLemmas
mod TurnLemmas
