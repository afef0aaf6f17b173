use Rattle.std.proofs.Common.{ap, sym, ◌∙◌}
use Rattle.stage_event.specs.declared.event.Event.{Event}
use Rattle.model_worlds.proofs.ExampleLemmas.{status_shows, events_show, acting_shows, sinks_stay}
use Rattle.model_worlds.proofs.laws.what_is_not_alike.Goals as goal

pub returns-clause-status : goal.returns-clause-status
returns-clause-status c = status_shows

pub returns-clause-events : goal.returns-clause-events
returns-clause-events c = events_show

pub returns-clause-acting : goal.returns-clause-acting
returns-clause-acting c = acting_shows

pub returns-clause-users : goal.returns-clause-users
returns-clause-users c stage own these those n d e =
    d
    (sym (c.both_users_are_shown.ensures.acting stage own these n)
    ∙ ap (λ (v : Event). v.impersonated) e
    ∙ c.both_users_are_shown.ensures.acting stage own those n)

pub returns-clause-sinks : goal.returns-clause-sinks
returns-clause-sinks c = sinks_stay
