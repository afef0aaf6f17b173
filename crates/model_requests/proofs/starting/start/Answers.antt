use Rattle.model_requests.proofs.StartLemmas.{start_none, start_some}
use Rattle.model_requests.proofs.starting.start.Goals as goal
use Rattle.model_sinks.specs.Fixed.{setup_of}

pub returns-in-None-clause-ok : goal.returns-in-None-clause-ok
returns-in-None-clause-ok c = λ keep.
    start_none (setup_of c.args.setup.now keep) c.args.status c.args.moment c.args.shared.now c.args.b.now c.in-None.is

pub returns-in-Some-clause-ok : goal.returns-in-Some-clause-ok
returns-in-Some-clause-ok c =
    start_some c.args.setup.now c.args.status c.args.moment c.args.shared.now c.args.b.now _ _ c.start_open.result
    c.in-Some.is c.start_open.ensures.ok
