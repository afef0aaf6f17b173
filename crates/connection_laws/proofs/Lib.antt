mod CountLemmas
mod WholeLemmas
mod WishLemmas
