mod AnswerLemmas
mod ChainLemmas
mod ConnLemmas
mod ListLemmas
mod NotingLemmas
mod ReadyLemmas
mod ReplyLemmas
