pub mod AccountLemmas
pub mod AnswerLemmas
pub mod BufferLemmas
pub mod ExchangeLemmas
pub mod ListLemmas
pub mod OneReplyLemmas
pub mod PostLemmas
pub mod ReplyLemmas
