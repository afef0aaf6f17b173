mod ClockLemmas
mod DialLemmas
mod ReadLemmas
mod WrittenLemmas
