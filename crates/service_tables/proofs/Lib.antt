pub mod AgeLemmas
