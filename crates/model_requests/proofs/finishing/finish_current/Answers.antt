use Rattle.model_requests.proofs.FinishLemmas.{current_finished}
use Rattle.model_requests.proofs.finishing.finish_current.Goals as goal
use Rattle.model_sinks.specs.Fixed.{setup_of}

pub returns-in-Ok-clause-ok : goal.returns-in-Ok-clause-ok
returns-in-Ok-clause-ok c = λ keep k.
    current_finished (setup_of c.args.setup.now keep) c.args.handling.now c.args.link c.args.reply c.args.moment
    c.args.closed.now.items _ _ c.args.current.now _ _ _ c.in-Some.is c.reserve.ensures.items (c.in-Ok.ensures.ok keep k)
    c.settle.ensures
