use Rattle.model_requests.proofs.BeginLemmas.{completed_as}
use Rattle.model_requests.proofs.beginning.complete.Goals as goal
use Rattle.model_sinks.specs.Fixed.{setup_of}

pub returns : goal.returns
returns c = λ keep.
    completed_as (setup_of c.args.setup.now keep) c.args.opened.now _ _ c.in_ok-asked.ensures (c.in_ok-waiting.ensures keep)
