-- The sink of a bay's own, over its offers.
use Rattle.std.proofs.Common.{◌≡◌, ℕ, Bool, List, [], ◌∷◌, Option, Some, None, IfSome, All, sym, ap, ◌∙◌, subst}
use Rattle.audit_core.specs.Offers.{Due}
use Rattle.audit_core.specs.declared.offers.OfferNote.{OfferNote}
use Rattle.audit_core.specs.declared.offers.Outcome.{Outcome}
use Rattle.audit_core.specs.declared.sinks.Sink.{Sink}
use Rattle.audit_core.specs.declared.sinks.Sink.TheVariants.{Log, Webhook}
use Rattle.event_offers.specs.Lanes.{LaneState, LanesState}
use Rattle.event_offers.specs.Offering.{OffersAll, OffersTo, OffersFit}
use Rattle.event_offers.specs.Taken.{lane_of}
use Rattle.front_base.specs.Line.{Line}
use Rattle.front_plants.specs.Fresh.{SinkOpens, IsNewSink, SentAll}
use Rattle.truncate_backend.specs.Lanes.{LaneTells, Offered, SinkStays}
use Rattle.truncate_backend.specs.Told.{JoinedEach}
use Rattle.truncate_backend.specs.Tries.{Try, SinkTells, KeepsSent, IsSingle}
use Rattle.truncate_backend.specs.declared.fitted.Fit.{Fit}
use Rattle.truncate_backend.specs.declared.fitted.Fit.TheVariants as fit
use Rattle.truncate_backend.specs.declared.lane.Offer.{Offer}
use Rattle.truncate_backend.specs.declared.lane.Offer.TheVariants as answer

-- the laws that are called
pub record Stays : Type 0 where
  pub none : (a : Option SinkTells) → SinkStays a a
  pub join : (a b c : Option SinkTells) → SinkStays a b → SinkStays b c → SinkStays a c
  pub single : (a b : Option (List Try)) → IfSome a (λ ts. ts ≡ []) → JoinedEach IsSingle a b → IfSome b (All IsSingle)

offer_stays : (m n : LaneTells) (line : Line) (queued : Bool) (own : Offer) → Offered m line queued own n → SinkStays m.sink n.sink
offer_stays m n line queued answer.Taken h = h.4
offer_stays m n line queued (answer.Full y) h = h.6
offer_stays m n line queued (answer.Failed y) h = h.6

fit_stays : (law : Stays) (bay : ℕ) (written : Fit) (m : LaneState) (own : Outcome) (n : LaneState) → OffersFit bay written m own n
    → SinkStays m.tells.sink n.tells.sink
fit_stays law bay (fit.Whole bytes) m own n h = offer_stays m.tells n.tells _ m.queued h.answer h.offered
fit_stays law bay (fit.Stripped bytes) m own n h = offer_stays m.tells n.tells _ m.queued h.answer h.offered
fit_stays law bay (fit.TooLarge size) m own n h =
    subst (λ (z : LaneState). SinkStays m.tells.sink z.tells.sink) (sym h.1) (law.none m.tells.sink)

same_lane : (law : Stays) (sink : Sink) (m n : LanesState) → lane_of sink n ≡ lane_of sink m
    → SinkStays (lane_of sink m).tells.sink (lane_of sink n).tells.sink
same_lane law sink m n e =
    subst (λ (z : LaneState). SinkStays (lane_of sink m).tells.sink z.tells.sink) (sym e) (law.none (lane_of sink m).tells.sink)

to_stays : (law : Stays) (own sink : Sink) (written : Fit) (m : LanesState) (became : Outcome) (n : LanesState) → OffersTo own written m became n
    → SinkStays (lane_of sink m).tells.sink (lane_of sink n).tells.sink
to_stays law Log Log written m became n h = fit_stays law m.bay written m.log became n.log h.0
to_stays law Log Webhook written m became n h = same_lane law Webhook m n (ap (λ (z : LanesState). z.hook) h.1)
to_stays law Webhook Log written m became n h = same_lane law Log m n (ap (λ (z : LanesState). z.log) h.1)
to_stays law Webhook Webhook written m became n h = fit_stays law m.bay written m.hook became n.hook h.0

pub all_stays : (law : Stays) (sink : Sink) (dues : List Due) (m n : LanesState) (notes : List OfferNote) → OffersAll dues m notes n
    → SinkStays (lane_of sink m).tells.sink (lane_of sink n).tells.sink
all_stays law sink [] m n notes h = same_lane law sink m n (ap (lane_of sink) h.1)
all_stays law sink (due ∷ dues) m n notes h =
    law.join (lane_of sink m).tells.sink (lane_of sink h.2).tells.sink (lane_of sink n).tells.sink
    (to_stays law due.sink sink due.fit m h.0 h.2 h.3) (all_stays law sink dues h.2 n h.1 h.5)

-- the law that is called
abbrev pub NewSends : Type 0
NewSends = (opens : SinkOpens) (m n : SinkTells) → IsNewSink opens m → KeepsSent m n → SentAll opens n

-- a new sink of its own, and what it tells after all offers
pub own_sent : NewSends → (opens : SinkOpens) (a b : Option SinkTells) (to : SinkTells) → IfSome a (IsNewSink opens) → SinkStays a b
    → b ≡ Some to → SentAll opens to
own_sent law opens None b to new h e = absurd (let none : Some to ≡ None = sym e ∙ h in cc)
own_sent law opens (Some m) None to new h e = absurd h
own_sent law opens (Some m) (Some n) to new h e = law opens m to new (subst (KeepsSent m) (let same : n ≡ to = cc in same) h.0)

pub own_single : Stays → (opens : SinkOpens) (a b : Option SinkTells) (to : SinkTells) → IfSome a (IsNewSink opens) → SinkStays a b
    → b ≡ Some to → IfSome to.tries (All IsSingle)
own_single law opens None b to new h e = absurd (let none : Some to ≡ None = sym e ∙ h in cc)
own_single law opens (Some m) None to new h e = absurd h
own_single law opens (Some m) (Some n) to new h e =
    let same : n ≡ to = cc in
    subst (λ (z : SinkTells). IfSome z.tries (All IsSingle)) same (law.single m.tries n.tries new.no_try h.1)
