mod RunLemmas
mod SendLemmas
mod CallLemmas
