use Rattle.model_worlds.proofs.ExampleLemmas.{none_alike, metadata_alike, replies_alike}
use Rattle.model_worlds.proofs.SecretLemmas.{one_sink}
use Rattle.model_worlds.specs.Steps.{after_steps}
use Rattle.model_worlds.specs.declared.step.Step.TheVariants as step
use Rattle.model_worlds.proofs.laws.one_secret_reaches_no_sink.Goals as goal

pub returns-clause-step : goal.returns-clause-step
returns-clause-step c = one_sink

pub returns-clause-metadata : goal.returns-clause-metadata
returns-clause-metadata c setup s before after bay moment peer r q sink text h e l =
    one_sink setup s before after (step.Begin bay r peer moment) (step.Begin bay q peer moment) sink text
    (metadata_alike setup (after_steps setup s before) (after_steps setup s before) bay moment peer r q h e l)

pub returns-clause-none : goal.returns-clause-none
returns-clause-none c setup s before after bay moment peer other r q sink text d e a =
    one_sink setup s before after (step.Begin bay r peer moment) (step.Begin bay q other moment) sink text
    (none_alike setup (after_steps setup s before) (after_steps setup s before) bay moment peer other r q d e a)

pub returns-clause-reply : goal.returns-clause-reply
returns-clause-reply c setup s before after o bay moment link other reply body sink text at due e =
    one_sink setup s before after (step.Finish bay link reply moment) (step.Finish bay other body moment) sink text
    (replies_alike setup (after_steps setup s before) o bay moment link other reply body at due e)
