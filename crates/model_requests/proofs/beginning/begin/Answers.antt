use Rattle.std.proofs.Common.{sym, ◌∙◌, ◌<◌, ◌≤◌, arith}
use Rattle.model_requests.proofs.BeginLemmas.{begin_busy, begin_turn, same_none}
use Rattle.model_requests.proofs.beginning.begin.Goals as goal
use Rattle.front_base.specs.declared.audit_id.TheConstants.{MOST_REQUESTS}
use Rattle.model_sinks.specs.Fixed.{setup_of}
use Rattle.model_worlds.specs.Requests.{wish_of}

pub returns-then-is_some-clause-ok : goal.returns-then-is_some-clause-ok
returns-then-is_some-clause-ok c = λ keep k sh.
    begin_busy (setup_of c.args.setup.now keep) c.args.bay
    (wish_of (setup_of c.args.setup.now keep) c.args.peer c.args.request.now c.args.moment) c.args.moment sh c.args.b.now
    (sym c.is_some.ensures ∙ c.if-is_some.true)

pub returns-in-Ok-clause-ok : goal.returns-in-Ok-clause-ok
returns-in-Ok-clause-ok c = λ keep k sh.
    let done = rw c.put.ensures at (c.in-Ok.ensures keep) in
    let few : c.args.b.now.number < MOST_REQUESTS = omega arith in
    begin_turn (setup_of c.args.setup.now keep) c.args.bay c.args.peer c.args.request.now c.args.moment sh c.args.b.now
    c.in_ok-opened.opened _ (sym c.is_some.ensures ∙ c.if-is_some.false) few (c.in_ok-opened.ensures keep k) done
