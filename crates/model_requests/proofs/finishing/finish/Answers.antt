use Rattle.std.proofs.Common.{◌∙◌, List, sym, refl, subst}
use Rattle.model_requests.proofs.FinishLemmas.{finish_not, finish_turn}
use Rattle.model_requests.proofs.finishing.finish.Goals as goal
use Rattle.model_requests.specs.Turns.{FinishesCurrent}
use Rattle.model_sinks.specs.Fixed.{setup_of}
use Rattle.model_worlds.specs.declared.state.Exchange.{Exchange}

pub returns-in_default-clause-ok : goal.returns-in_default-clause-ok
returns-in_default-clause-ok c = λ keep k.
    finish_not (setup_of c.args.setup.now keep) c.args.link c.args.reply c.args.moment c.args.shared.now c.args.b.now
    c.args.b.now.current refl (sym (c.in_ok-handling.ensures keep) ∙ c.in_default.is)

pub returns-in-Ok-clause-ok : goal.returns-in-Ok-clause-ok
returns-in-Ok-clause-ok c = λ keep k.
    let setup = setup_of c.args.setup.now keep in
    let from = subst
    (λ (cs : List Exchange). FinishesCurrent setup c.in-Some.handling c.args.link c.args.reply c.args.moment cs
    c.args.b.now.current c.finish_current-done.new.closed.items c.finish_current-done.new.current)
    c.take_all-closed.ensures.all (c.in-Ok.ensures.ok keep k) in
    let done = subst
    (λ (cs : List Exchange). FinishesCurrent setup c.in-Some.handling c.args.link c.args.reply c.args.moment
    c.args.b.now.closed c.args.b.now.current cs c.finish_current-done.new.current)
    (sym c.new.ensures) from in
    finish_turn setup c.args.link c.args.reply c.args.moment c.args.shared.now c.args.b.now c.in-Some.handling _
    c.args.b.now.current _ refl (sym (c.in_ok-handling.ensures keep) ∙ c.in-Some.is) done
