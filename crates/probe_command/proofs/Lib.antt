mod ConfigLemmas
mod FaultLemmas
mod ListingLemmas
mod RunLemmas
mod TokenLemmas
