use Rattle.std.proofs.Common.{sym, ◌∙◌}
use Rattle.model_offers.proofs.TurnLemmas.{found_turn}
use Rattle.model_offers.proofs.finding.find.Goals as goal

pub returns-clause-ok : goal.returns-clause-ok
returns-clause-ok c =
    let is = rw c.as_slice.ensures at c.in_ok-row.ensures in
    λ keep. found_turn c.args.setup.now keep c.args.seen c.args.shared.now c.args.b.now c.in-Some.opened _ _ c.in-Some.is
    (sym c.can_find.ensures ∙ c.if-not-can_find.false) is c.note_found.ensures
