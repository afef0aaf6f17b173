use Rattle.std.proofs.Common.{◌∙◌, List, [], ◌∷◌, ◌++◌, ap}
use Rattle.audit_core.specs.declared.offers.OfferNote.{OfferNote}
use Rattle.model_offers.proofs.OfferLemmas.{offered_first}
use Rattle.model_offers.proofs.offering.offer_first.Goals as goal
use Rattle.model_sinks.specs.Fixed.{setup_of}

pub returns-in-Ok-clause-ok : goal.returns-in-Ok-clause-ok
returns-in-Ok-clause-ok c =
    let now = rw c.settings.ensures.is at c.take_first.ensures in
    let first = rw c.as_slice.ensures at c.index-as_slice-0.is in
    λ keep. offered_first (setup_of c.args.setup.now keep) c.args.bay c.args.works c.args.shared.now _ c.args.opened.now _
    c.in-Ok.note _ c.args.opened.now.waiting _ first (c.in-Ok.ensures.shared keep) c.in-Ok.ensures.note
    (c.new.ensures ∙ c.in-Ok.ensures.notes
    ∙ ap (λ (ns : List OfferNote). ns ++ c.in-Ok.note ∷ []) c.take_all-notes.ensures.all)
    now
