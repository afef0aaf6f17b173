-- One event for both sinks.
use Rattle.std.proofs.Common.{◌≡◌, Bool, true, false, if◌then◌else◌, List, [], ◌∷◌, ◌++◌, map, refl, sym, ap, subst, ◌∙◌, append_assoc}
use Rattle.audit_core.specs.Offers.{Due, due_at, sinks_on, is_on}
use Rattle.audit_core.specs.declared.offers.OfferNote.{OfferNote}
use Rattle.audit_core.specs.declared.settings.Settings.{Settings}
use Rattle.audit_core.specs.declared.sinks.Sink.TheVariants.{Log, Webhook}
use Rattle.event_offers.specs.Lanes.{LanesState}
use Rattle.event_offers.specs.Offering.{Noted, NotedOne, OffersTo}
use Rattle.stage_event.specs.declared.event.Event.{Event}
use Rattle.truncate_backend.specs.Fits.{fitted}
use Rattle.truncate_backend.specs.declared.fitted.Fit.{Fit}

-- what is due by which sinks are on
abbrev pub dues_by : Settings → Event → Bool → Bool → List Due
dues_by set own log hook = map (due_at set own) ((if log then Log ∷ [] else []) ++ (if hook then Webhook ∷ [] else [])) ++ []

pub noted_both : (set : Settings) (own : Event) (log hook : Bool) (written copy : Fit) (m k n : LanesState) (a b c : List OfferNote)
    → log ≡ true → hook ≡ true → written ≡ fitted own set.max_event → copy ≡ fitted own set.max_event
    → NotedOne Log own.stage written m a k b → NotedOne Webhook own.stage copy k b n c
    → Noted (dues_by set own log hook) m a n c
noted_both set own log hook written copy m k n a b c on also is same h j =
    let first : OfferNote = record { sink = Log; stage = own.stage; outcome = h.became } in
    let second : OfferNote = record { sink = Webhook; stage = own.stage; outcome = j.became } in
    subst (λ t. Noted (dues_by set own t hook) m a n c) (sym on)
    (subst (λ t. Noted (dues_by set own true t) m a n c) (sym also) (record {
      more = first ∷ second ∷ [];
      offered = (
        h.became,
        second ∷ [],
        k,
        subst (λ f. OffersTo Log f m h.became k) is h.offered,
        refl,
        (j.became, [], n, subst (λ f. OffersTo Webhook f k j.became n) same j.offered, refl, (refl, refl)),
      );
      new_is = j.new_is ∙ ap (λ l. l ++ second ∷ []) h.new_is ∙ append_assoc a (first ∷ []) (second ∷ []);
    }))
