mod JoinLemmas
mod GoesLemmas
mod ExtendsLemmas
mod TurnLemmas
