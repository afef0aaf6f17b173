-- What one call after another adds.
use Rattle.std.proofs.Common.{◌≡◌, Bool, ◌||◌, true, false, List, [], ◌++◌, Option, None, Some, refl, sym, ap, subst, ◌∙◌, append_assoc, append-nil}
use Rattle.std.proofs.lemmas.List.Folds.{list_any-append}
use Rattle.std.specs.Prelude.{Result, Ok, Err, OnErr}
use Rattle.audit_core.specs.Offers.{Due, offers_due, has_refused, refuses, is_first}
use Rattle.audit_core.specs.declared.offers.OfferNote.{OfferNote}
use Rattle.audit_core.specs.declared.settings.Settings.{Settings}
use Rattle.event_offers.specs.Lanes.{LanesState}
use Rattle.event_offers.specs.Offering.{Noted, OffersAll, stage_events}
use Rattle.front_base.specs.declared.stage.Stage.{Stage}
use Rattle.front_ports.specs.Told.{Grows}
use Rattle.policy_rules.specs.declared.decision.Decision.{Decision}
use Rattle.session_core.specs.Bays.{BayState}
use Rattle.stage_event.specs.declared.facts.Facts.{Facts}

-- ---- the clock

pub grows_join : {T : Type 0} (a b c : Option (List T)) (xs ys : List T) → Grows a b xs → Grows b c ys → Grows a c (xs ++ ys)
grows_join None b c xs ys h k = subst (λ o. Grows o c ys) h k
grows_join (Some l) None c xs ys h k = subst (λ o. Grows (Some l) o (xs ++ ys)) (sym k) tt
grows_join (Some l) (Some m) None xs ys h k = tt
grows_join (Some l) (Some m) (Some n) xs ys h k = k ∙ ap (λ o. o ++ ys) h ∙ append_assoc l xs ys

pub grows_none : {T : Type 0} (a : Option (List T)) → Grows a a []
grows_none None = refl
grows_none (Some xs) = sym (append-nil xs)

-- ---- notes

-- offers one after another
abbrev pub Join : Type 0
Join = (these those : List Due) (m k n : LanesState) (notes more : List OfferNote)
    → OffersAll these m notes k → OffersAll those k more n → OffersAll (these ++ those) m (notes ++ more) n

pub noted_join : Join → (xs ys : List Due) (m k n : LanesState) (a b c : List OfferNote) → Noted xs m a k b → Noted ys k b n c
    → Noted (xs ++ ys) m a n c
noted_join join xs ys m k n a b c h j = record {
  more = h.more ++ j.more;
  offered = join xs ys m k n h.more j.more h.offered j.offered;
  new_is = j.new_is ∙ ap (λ l. l ++ j.more) h.new_is ∙ append_assoc a h.more j.more;
}

pub noted_none : (m : LanesState) (a : List OfferNote) → Noted [] m a m a
noted_none m a = record { more = []; offered = (refl, refl); new_is = sym (append-nil a) }

-- a later stage refuses nothing
abbrev pub RefusesNone : Type 0
RefusesNone = (set : Settings) (d : Decision) (facts : Facts) (own : Stage) (m n : LanesState) (notes : List OfferNote)
    → is_first own ≡ false → OffersAll (offers_due set (stage_events d facts own)) m notes n
    → has_refused set notes ≡ false

or_none : (a b : Bool) → b ≡ false → (a || b) ≡ a
or_none true b e = refl
or_none false b e = e

pub refuses_same : RefusesNone → (set : Settings) (d : Decision) (facts : Facts) (own : Stage) (m n : LanesState) (a b : List OfferNote)
    → is_first own ≡ false → Noted (offers_due set (stage_events d facts own)) m a n b → has_refused set b ≡ has_refused set a
refuses_same none set d facts own m n a b e h =
    ap (has_refused set) h.new_is ∙ list_any-append (refuses set) a h.more
    ∙ or_none (has_refused set a) (has_refused set h.more) (none set d facts own m n h.more e h.offered)

-- ---- results and states

pub on_err : {T E : Type 0} (r : Result T E) (P : Type 0) → P → OnErr r P
on_err (Ok x) P p = tt
on_err (Err x) P p = p

pub same_opening : (m n : BayState) → n.opening ≡ m.opening → n ≡ record n { opening = m.opening }
same_opening m n e = ap (λ o. let t : BayState = record n { opening = o } in t) e
