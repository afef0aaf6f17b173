use Rattle.std.proofs.Common.{sym, ◌∙◌}
use Rattle.model_requests.proofs.StartLemmas.{start_refused, start_turn, start_unready}
use Rattle.model_requests.proofs.starting.start_open.Goals as goal
use Rattle.model_sinks.specs.Fixed.{setup_of}

pub returns-then-not-is_ready-clause-ok : goal.returns-then-not-is_ready-clause-ok
returns-then-not-is_ready-clause-ok c = λ keep b.
    start_unready (setup_of c.args.setup.now keep) c.args.status c.args.moment c.args.shared.now b c.args.opened.now
    (sym c.is_ready.ensures ∙ c.if-not-is_ready.true)

pub returns-then-not-can_start-clause-ok : goal.returns-then-not-can_start-clause-ok
returns-then-not-can_start-clause-ok c = λ keep b.
    start_refused (setup_of c.args.setup.now keep) c.args.status c.args.moment c.args.shared.now b c.args.opened.now
    c.in_ok-handling.handling (sym c.is_ready.ensures ∙ c.if-not-is_ready.false) (c.in_ok-handling.ensures keep)
    (sym c.can_start.ensures ∙ c.if-not-can_start.true)

pub returns-in-Ok-clause-ok : goal.returns-in-Ok-clause-ok
returns-in-Ok-clause-ok c = λ keep b.
    start_turn (setup_of c.args.setup.now keep) c.args.status c.args.moment c.args.shared.now b c.args.opened.now _
    c.in_ok-handling.handling (sym c.is_ready.ensures ∙ c.if-not-is_ready.false) (c.in_ok-handling.ensures keep)
    (sym c.can_start.ensures ∙ c.if-not-can_start.false) (c.in-Ok.ensures.ok keep)
