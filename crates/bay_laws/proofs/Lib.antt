mod WholeLemmas
