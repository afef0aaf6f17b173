use Rattle.std.proofs.lemmas.Result.{on_ok_weaker}
use Rattle.model_requests.proofs.BeginLemmas.{current_completed}
use Rattle.model_requests.proofs.beginning.complete_current.Goals as goal
use Rattle.model_sinks.specs.Fixed.{setup_of}

pub returns-in-Some : goal.returns-in-Some
returns-in-Some c =
    on_ok_weaker
    c.complete.result
    (λ h keep. current_completed (setup_of c.args.setup.now keep) c.args.current.now c.in-Some.opened c.complete.new.opened
    c.in-Some.is (h keep))
    c.complete.ensures
