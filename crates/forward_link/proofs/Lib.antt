pub mod DashedLemmas
pub mod ExchangeLemmas
pub mod LawLemmas
pub mod LegalLemmas
pub mod LineLemmas
pub mod ReadingLemmas
pub mod SaysLemmas
pub mod TalkLemmas
