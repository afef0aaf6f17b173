-- Counts of refused offers.
use Rattle.std.proofs.Common.{◌≡◌, ℕ, ◌+◌, ◌&&◌, Bool, false, List, [], ◌∷◌, refl, sym, ap, subst, ◌∙◌, arith}
use Rattle.audit_core.specs.Offers.{Due}
use Rattle.audit_core.specs.declared.offers.OfferNote.{OfferNote}
use Rattle.audit_core.specs.declared.offers.Outcome.{Outcome}
use Rattle.audit_core.specs.declared.offers.Outcome.TheVariants as outcome
use Rattle.audit_core.specs.declared.sinks.Sink.{Sink}
use Rattle.audit_core.specs.declared.sinks.Sink.TheVariants.{Log, Webhook}
use Rattle.connection_laws.specs.Whole.{count_of, one_if, is_full, is_failure}
use Rattle.event_offers.specs.Lanes.{LaneState, LanesState}
use Rattle.event_offers.specs.Offering.{OffersAll, OffersTo, OffersFit, OffersLine, outcome_of}
use Rattle.event_offers.specs.Taken.{lane_of, is_for}
use Rattle.front_base.specs.Line.{Line}
use Rattle.truncate_backend.specs.Lanes.{Offered, LaneTells}
use Rattle.truncate_backend.specs.Told.{CountsBy}
use Rattle.truncate_backend.specs.declared.fitted.Fit.{Fit}
use Rattle.truncate_backend.specs.declared.fitted.Fit.TheVariants as fit
use Rattle.truncate_backend.specs.declared.lane.Offer.{Offer}
use Rattle.truncate_backend.specs.declared.lane.Offer.TheVariants as answer

counts_same : (a b : ℕ) → b ≡ a → CountsBy a 0 b
counts_same a b e = λ small. omega (arith, e, small)

counts_join : (a b c more less : ℕ) → CountsBy a more b → CountsBy b less c → CountsBy a (more + less) c
counts_join a b c more less h k = λ small.
    let one = h small in
    let two = k (omega (arith, one)) in
    omega (arith, one, two)

-- a count that a lane tells, which such offers make greater
module _ (told : LaneTells → ℕ) (such : Outcome → Bool)
    (adds : (m n : LaneTells) (line : Line) (queued : Bool) (own : Offer) → Offered m line queued own n
    → CountsBy (told m) (one_if (such (outcome_of own))) (told n))
    (large : (size : ℕ) → such (outcome.TooLarge size) ≡ false) where
  count_line : (bay : ℕ) (bytes : List ℕ) (m n : LaneState) (own : Outcome) → OffersLine bay bytes m own n
      → CountsBy (told m.tells) (one_if (such own)) (told n.tells)
  count_line bay bytes m n own h =
      subst (λ o. CountsBy (told m.tells) (one_if (such o)) (told n.tells)) (sym h.outcome_is)
      (adds m.tells n.tells _ m.queued h.answer h.offered)

  count_fit : (bay : ℕ) (written : Fit) (m n : LaneState) (own : Outcome) → OffersFit bay written m own n
      → CountsBy (told m.tells) (one_if (such own)) (told n.tells)
  count_fit bay (fit.Whole bytes) m n own h = count_line bay bytes m n own h
  count_fit bay (fit.Stripped bytes) m n own h = count_line bay bytes m n own h
  count_fit bay (fit.TooLarge size) m n own h =
      subst (λ k. CountsBy (told m.tells) k (told n.tells)) (sym (ap one_if (ap such h.0 ∙ large size)))
      (counts_same (told m.tells) (told n.tells) (ap (λ (s : LaneState). told s.tells) h.1))

  count_one : (sink to : Sink) (written : Fit) (m n : LanesState) (own : Outcome) → OffersTo to written m own n
      → CountsBy (told (lane_of sink m).tells) (one_if (is_for sink to && such own)) (told (lane_of sink n).tells)
  count_one Log Log written m n own h = count_fit m.bay written m.log n.log own h.0
  count_one Log Webhook written m n own h = counts_same _ _ (ap (λ (s : LanesState). told s.log.tells) h.1)
  count_one Webhook Log written m n own h = counts_same _ _ (ap (λ (s : LanesState). told s.hook.tells) h.1)
  count_one Webhook Webhook written m n own h = count_fit m.bay written m.hook n.hook own h.0

  pub count_all : (sink : Sink) (dues : List Due) (m n : LanesState) (notes : List OfferNote) → OffersAll dues m notes n
      → CountsBy (told (lane_of sink m).tells) (count_of such sink notes) (told (lane_of sink n).tells)
  count_all sink [] m n notes h =
      subst (λ l. CountsBy (told (lane_of sink m).tells) (count_of such sink l) (told (lane_of sink n).tells)) (sym h.0)
      (counts_same _ _ (ap (λ (s : LanesState). told (lane_of sink s).tells) h.1))
  count_all sink (due ∷ dues) m n notes h =
      subst (λ l. CountsBy (told (lane_of sink m).tells) (count_of such sink l) (told (lane_of sink n).tells)) (sym h.4)
      (counts_join (told (lane_of sink m).tells) (told (lane_of sink h.2).tells) (told (lane_of sink n).tells)
      (one_if (is_for sink due.sink && such h.0)) (count_of such sink h.1)
      (count_one sink due.sink due.fit m h.2 h.0 h.3) (count_all sink dues h.2 n h.1 h.5))

pub adds_full : (m n : LaneTells) (line : Line) (queued : Bool) (own : Offer) → Offered m line queued own n
    → CountsBy m.fulls (one_if (is_full (outcome_of own))) n.fulls
adds_full m n line queued answer.Taken h = counts_same m.fulls n.fulls h.2
adds_full m n line queued (answer.Full back) h = λ small. h.4.is
adds_full m n line queued (answer.Failed back) h = counts_same m.fulls n.fulls h.4

pub adds_failed : (m n : LaneTells) (line : Line) (queued : Bool) (own : Offer) → Offered m line queued own n
    → CountsBy m.faults (one_if (is_failure (outcome_of own))) n.faults
adds_failed m n line queued answer.Taken h = counts_same m.faults n.faults h.3
adds_failed m n line queued (answer.Full back) h = counts_same m.faults n.faults h.5
adds_failed m n line queued (answer.Failed back) h = λ small. h.5.is

pub large_is_not_full : (size : ℕ) → is_full (outcome.TooLarge size) ≡ false
large_is_not_full size = refl

pub large_is_no_failure : (size : ℕ) → is_failure (outcome.TooLarge size) ≡ false
large_is_no_failure size = refl
