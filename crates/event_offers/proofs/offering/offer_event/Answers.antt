use Rattle.std.proofs.Common.{sym, subst, ◌∙◌, List}
use Rattle.audit_core.specs.Offers.{is_on}
use Rattle.audit_core.specs.declared.offers.OfferNote.{OfferNote}
use Rattle.event_offers.specs.Offering.{Noted}
use Rattle.event_offers.proofs.OfferLemmas.{dues_by, noted_both}
use Rattle.event_offers.specs.Lanes.{lanes_state}
use Rattle.event_offers.proofs.offering.offer_event.Goals as goal

pub returns-in_ok-copy-in-true-true-clause-ok : goal.returns-in_ok-copy-in-true-true-clause-ok
returns-in_ok-copy-in-true-true-clause-ok g c =
    subst (λ (l : List OfferNote). Noted (dues_by c.args.settings.now c.args.event.now (is_on c.args.settings.now.log) (is_on c.args.settings.now.hook))
    (lanes_state g.A.Lane g.B.Lane c.args.lanes.now) l (lanes_state g.A.Lane g.B.Lane c.to_hook.new.lanes) c.to_hook.new.notes.items)
    c.reserve.ensures.items
    (noted_both c.args.settings.now c.args.event.now _ _ _ _ _ _ _ _ _ _
    (sym c.in-true-true.ensures) (sym c.in-true-true.ensures')
    c.in_ok-written-in-true-true.ensures.is (c.in_ok-copy-in-true-true.ensures ∙ c.in_ok-written-in-true-true.ensures.is)
    c.to_log.ensures.noted c.to_hook.ensures.noted)
