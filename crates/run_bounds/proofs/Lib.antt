mod BoundLemmas
mod EndLemmas
mod KnownLemmas
