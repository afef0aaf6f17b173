mod EndLemmas
mod FaultLemmas
mod RunLemmas
