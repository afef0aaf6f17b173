mod FaultLemmas
mod LoadLemmas
