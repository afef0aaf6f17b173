mod ListLemmas
mod StepLemmas
