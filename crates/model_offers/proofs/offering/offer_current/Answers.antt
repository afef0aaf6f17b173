use Rattle.model_offers.proofs.OfferLemmas.{current_offered, current_waits}
use Rattle.model_offers.proofs.offering.offer_current.Goals as goal

pub offer_first-requires : goal.offer_first-requires
offer_first-requires c = current_waits c.args.sink c.args.current.now _ c.in-Some.is c.requires

pub returns-in-Ok-clause-ok : goal.returns-in-Ok-clause-ok
returns-in-Ok-clause-ok c =
    current_offered c.args.setup.now c.args.bay c.args.works c.args.shared.now _ c.args.closed.now.items _ _
    c.args.current.now _ _ _ c.in-Ok.outcome c.in-Some.is c.reserve.ensures.items c.in-Ok.ensures.ok c.settle.ensures
