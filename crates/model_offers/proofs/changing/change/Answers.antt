use Rattle.std.proofs.Common.{sym, ◌∙◌, ap, length}
use Rattle.model_offers.proofs.TurnLemmas.{changed_turn}
use Rattle.model_offers.proofs.changing.change.Goals as goal
use Rattle.model_worlds.specs.declared.state.Shared.{Shared}

pub returns-clause-ok : goal.returns-clause-ok
returns-clause-ok c =
    let now = rw c.as_slice.ensures at c.note_decided.ensures in
    λ keep. changed_turn c.args.setup.now keep c.args.shared.now _ c.args.b.now c.in-Some.opened c.in-Some-asked.change _ _ _
    c.in-Some.is c.in-Some-asked.is (sym c.can_decide.ensures ∙ c.if-not-can_decide.false) c.in_ok-fault.ensures.ok.0
    c.in_ok-fault.ensures.ok.1
    (ap length c.as_slice-2.ensures ∙ ap (λ (sh : Shared). length sh.changes) c.in_ok-fault.ensures.ok.1) now
