mod LastLemmas
mod PatchLemmas
