mod ConfigLemmas
mod FaultLemmas
mod SinkLemmas
