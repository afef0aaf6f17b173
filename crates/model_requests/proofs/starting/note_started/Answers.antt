use Rattle.model_requests.proofs.StartLemmas.{started_as}
use Rattle.model_requests.proofs.starting.note_started.Goals as goal
use Rattle.model_sinks.specs.Fixed.{setup_of}

pub returns-in-Ok-clause-ok : goal.returns-in-Ok-clause-ok
returns-in-Ok-clause-ok c = λ keep.
    started_as (setup_of c.args.setup.now keep) c.args.status c.args.moment c.args.opened.now c.in-Ok.waiting
    (c.in-Ok.ensures keep)
