mod ExampleLemmas
mod ExampleRun
mod HidingLemmas
mod PartLemmas
mod SecretLemmas
mod StepLemmas
mod WorldLemmas
