-- Offers one after another.
use Rattle.std.proofs.Common.{◌≡◌, List, [], ◌∷◌, ◌++◌, refl, sym, ap, ◌∙◌, subst, append_assoc}
use Rattle.audit_core.specs.Offers.{Due}
use Rattle.audit_core.specs.declared.offers.OfferNote.{OfferNote}
use Rattle.event_offers.specs.Lanes.{LanesState}
use Rattle.event_offers.specs.Offering.{OffersAll, note_of}

pub join : (these those : List Due) (m k n : LanesState) (notes more : List OfferNote)
    → OffersAll these m notes k → OffersAll those k more n → OffersAll (these ++ those) m (notes ++ more) n
join [] those m k n notes more h j =
    subst (λ l. OffersAll those m (l ++ more) n) (sym h.0) (subst (λ s. OffersAll those s more n) h.1 j)
join (due ∷ these) those m k n notes more h j =
    (h.0, h.1 ++ more, h.2, h.3, ap (λ l. l ++ more) h.4, join these those h.2 k n h.1 more h.5 j)
