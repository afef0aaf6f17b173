use Rattle.model_sinks.specs.Fixed.{setup_of}
use Rattle.model_offers.proofs.laws.looks_are_steps.Goals as goal
use Rattle.model_worlds.specs.Steps.{changed, found, in_exchange, step}

pub returns-clause-find : goal.returns-clause-find
unfolding step
returns-clause-find c own keep s place seen b new sh answer at h =
    c.turns_are_steps.ensures.taken s place (in_exchange (found (setup_of own keep) seen)) b new sh answer at h

pub returns-clause-change : goal.returns-clause-change
unfolding step
returns-clause-change c own keep s place b new sh answer at h =
    c.turns_are_steps.ensures.taken s place (in_exchange (changed (setup_of own keep))) b new sh answer at h
