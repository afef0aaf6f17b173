use Rattle.std.proofs.Common.{◌∙◌, List, sym, refl, subst}
use Rattle.model_offers.proofs.OfferLemmas.{offer_idle, offer_turn, same_bay}
use Rattle.model_offers.proofs.offering.offer.Goals as goal
use Rattle.model_offers.specs.Turns.{OffersCurrent}
use Rattle.model_sinks.specs.Fixed.{setup_of}
use Rattle.model_worlds.specs.declared.state.Exchange.{Exchange}

pub offer_current-offered-requires : goal.offer_current-offered-requires
offer_current-offered-requires c = sym c.can_offer.ensures ∙ c.if-not-can_offer.false

pub returns-then-not-can_offer-clause-ok : goal.returns-then-not-can_offer-clause-ok
returns-then-not-can_offer-clause-ok c =
    λ keep. offer_idle (setup_of c.args.setup.now keep) c.args.bay c.args.sink c.args.works c.args.shared.now c.args.b.now
    c.args.b.now.current refl (sym c.can_offer.ensures ∙ c.if-not-can_offer.true)

pub returns-in-Ok-clause-ok : goal.returns-in-Ok-clause-ok
returns-in-Ok-clause-ok c =
    λ keep. let setup = setup_of c.args.setup.now keep in
    let from = subst
    (λ (cs : List Exchange). OffersCurrent setup c.args.bay c.args.works c.args.shared.now cs c.args.b.now.current
    c.in-Ok.outcome c.offer_current-offered.new.shared c.offer_current-offered.new.closed.items
    c.offer_current-offered.new.current) c.take_all-closed.ensures.all (c.in-Ok.ensures.ok keep) in
    let offers = subst
    (λ (cs : List Exchange). OffersCurrent setup c.args.bay c.args.works c.args.shared.now c.args.b.now.closed
    c.args.b.now.current c.in-Ok.outcome c.offer_current-offered.new.shared cs c.offer_current-offered.new.current)
    (sym c.new.ensures) from in
    offer_turn setup c.args.bay c.args.sink c.args.works c.args.shared.now _ c.args.b.now _ _ _ c.in-Ok.outcome refl
    (sym c.can_offer.ensures ∙ c.if-not-can_offer.false) offers

pub returns-in-Err-clause-err : goal.returns-in-Err-clause-err
returns-in-Err-clause-err c = (
  c.in-Err.ensures.shared,
  same_bay c.args.b.now _ _ (c.new.ensures ∙ c.in-Err.ensures.closed ∙ c.take_all-closed.ensures.all)
      c.in-Err.ensures.current,
)
