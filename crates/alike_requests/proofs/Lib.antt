mod ManagedLemmas
mod OfferLemmas
mod ReplyLemmas
mod RequestLemmas
mod SeenLemmas
