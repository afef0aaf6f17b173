mod LargeLemmas
