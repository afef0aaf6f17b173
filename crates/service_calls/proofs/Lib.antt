mod AskLemmas
mod FetchLemmas
mod LinkLemmas
mod SaysLemmas
