mod HeadLemmas
mod KeepLemmas
mod LinkLemmas
mod SaysLemmas
mod SentLemmas
mod StatusLemmas
mod StreamLemmas
mod WritingLemmas
