use Rattle.std.proofs.Common.{ap, ◌∙◌}
use Rattle.std.proofs.lemmas.Option.{slice_get_past}
use Rattle.model_sinks.proofs.StepLemmas.{turn_taken}
use Rattle.model_sinks.proofs.laws.turns_are_steps.Goals as goal
use Rattle.model_worlds.specs.Steps.{try_at, turned}

pub returns-clause-taken : goal.returns-clause-taken
returns-clause-taken c s place f b new sh answer at h =
    ap (λ o. turned s place (try_at f s.shared o)) at ∙ turn_taken s place (f s.shared b) b new sh answer at h

pub returns-clause-none : goal.returns-clause-none
returns-clause-none c s place f past = ap (λ o. turned s place (try_at f s.shared o)) (slice_get_past s.bays place past)
