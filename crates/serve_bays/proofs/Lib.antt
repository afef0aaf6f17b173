mod CallLemmas
mod Lists
mod MadeLemmas
mod ServedLemmas
mod Walks
