mod BayLemmas
mod StepLemmas
