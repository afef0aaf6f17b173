use Rattle.std.proofs.Common.{sym, ◌∙◌}
use Rattle.model_requests.proofs.FinishLemmas.{answer_none, answer_some}
use Rattle.model_requests.proofs.finishing.answer_to.Goals as goal
use Rattle.model_sinks.specs.Fixed.{setup_of}

pub returns-then-can_finish : goal.returns-then-can_finish
returns-then-can_finish c = λ keep.
    answer_some (setup_of c.args.setup.now keep) c.args.link c.args.moment c.args.shared.now c.args.current.now
    c.in-Some.opened c.in_ok-handling.handling c.status_of.result c.in-Some.is
    (sym c.is_ready.ensures ∙ c.if-not-is_ready.false) (c.in_ok-handling.ensures keep) c.status_of.ensures
    (sym c.can_finish.ensures ∙ c.if-can_finish.true)

pub returns-else-can_finish : goal.returns-else-can_finish
returns-else-can_finish c = λ keep.
    answer_none (setup_of c.args.setup.now keep) c.args.link c.args.moment c.args.shared.now c.args.current.now
    c.in-Some.opened c.in_ok-handling.handling c.status_of.result c.in-Some.is
    (sym c.is_ready.ensures ∙ c.if-not-is_ready.false) (c.in_ok-handling.ensures keep) c.status_of.ensures
    (sym c.can_finish.ensures ∙ c.if-can_finish.false)
