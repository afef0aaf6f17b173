-- The lines that a lane gets.
use Rattle.std.proofs.Common.{◌≡◌, ◌+◌, ℕ, Bool, true, false, if◌then◌else◌, List, [], ◌∷◌, ◌++◌, refl, sym, ap, ◌∙◌, subst, append-nil, arith}
use Rattle.std.specs.Prelude.{Option, Some, None, ⊤}
use Rattle.audit_core.specs.Offers.{Due}
use Rattle.audit_core.specs.declared.offers.OfferNote.{OfferNote}
use Rattle.audit_core.specs.declared.offers.Outcome.{Outcome}
use Rattle.audit_core.specs.declared.offers.Outcome.TheVariants as outcome
use Rattle.audit_core.specs.declared.sinks.Sink.{Sink}
use Rattle.audit_core.specs.declared.sinks.Sink.TheVariants.{Log, Webhook}
use Rattle.event_offers.specs.Lanes.{LaneState, LanesState}
use Rattle.event_offers.specs.Offering.{OffersAll, OffersTo, OffersFit, OffersLine, note_of, outcome_of, next_line}
use Rattle.event_offers.specs.Taken.{is_taken, is_tried, lane_of, is_for, kept_line, line_in, count_in, lines_for}
use Rattle.event_offers.proofs.LaneLemmas.{one_bay}
use Rattle.front_base.specs.Line.{Line}
use Rattle.front_ports.specs.Told.{Grows}
use Rattle.truncate_backend.specs.Lanes.{Offered, LaneTells}
use Rattle.truncate_backend.specs.Told.{Joined}
use Rattle.truncate_backend.specs.declared.fitted.Fit.{Fit}
use Rattle.truncate_backend.specs.declared.fitted.Fit.TheVariants as fit
use Rattle.truncate_backend.specs.declared.lane.Offer.{Offer}
use Rattle.truncate_backend.specs.declared.lane.Offer.TheVariants as answer

grows_none : (a : Option (List Line)) → Grows a a []
grows_none None = refl
grows_none (Some xs) = sym (append-nil xs)

joined_none : (a b : Option (List Line)) → b ≡ a → Joined a [] b
joined_none a b e = subst (λ (o : Option (List Line)). Joined a [] o) (sym e) (record { grows = grows_none a })

-- a list of the lane that is told, and which outcomes add to it
module _ (told : LaneTells → Option (List Line)) (keeps : Outcome → Bool)
    (adds : (m n : LaneTells) (line : Line) (queued : Bool) (own : Offer) → Offered m line queued own n
    → Joined (told m) (kept_line (keeps (outcome_of own)) line) (told n))
    (join : (a b c : Option (List Line)) (xs ys : List Line) → Joined a xs b → Joined b ys c → Joined a (xs ++ ys) c) where
  abbrev pub Gets : ℕ → Fit → Outcome → LaneState → LaneState → Type 0
  Gets bay written own m n =
      Joined (told m.tells) (line_in keeps bay m.lines written own) (told n.tells) × (n.lines ≡ m.lines + count_in written)

  gets_line : (bay : ℕ) (bytes : List ℕ) (m n : LaneState) (own : Outcome) → OffersLine bay bytes m own n
      → Joined (told m.tells) (kept_line (keeps own) (next_line bay m bytes)) (told n.tells) × (n.lines ≡ m.lines + 1)
  gets_line bay bytes m n own h = (
    subst (λ o. Joined (told m.tells) (kept_line (keeps o) (next_line bay m bytes)) (told n.tells)) (sym h.outcome_is)
        (adds m.tells n.tells (next_line bay m bytes) m.queued h.answer h.offered),
    ap (λ (s : LaneState). s.lines) h.after,
  )

  gets_fit : (bay : ℕ) (written : Fit) (m n : LaneState) (own : Outcome) → OffersFit bay written m own n → Gets bay written own m n
  gets_fit bay (fit.Whole bytes) m n own h = gets_line bay bytes m n own h
  gets_fit bay (fit.Stripped bytes) m n own h = gets_line bay bytes m n own h
  gets_fit bay (fit.TooLarge size) m n own h = (
    joined_none (told m.tells) (told n.tells) (ap (λ (s : LaneState). told s.tells) h.1),
    omega (arith, ap (λ (s : LaneState). s.lines) h.1),
  )

  abbrev pub GetsOne : Bool → Sink → Fit → Outcome → LanesState → LanesState → Type 0
  GetsOne true sink written own m n = Gets m.bay written own (lane_of sink m) (lane_of sink n)
  GetsOne false sink written own m n = lane_of sink n ≡ lane_of sink m

  gets_one : (sink to : Sink) (written : Fit) (m n : LanesState) (own : Outcome) → OffersTo to written m own n
      → GetsOne (is_for sink to) sink written own m n
  gets_one Log Log written m n own h = gets_fit m.bay written m.log n.log own h.0
  gets_one Log Webhook written m n own h = ap (λ (s : LanesState). s.log) h.1
  gets_one Webhook Log written m n own h = ap (λ (s : LanesState). s.hook) h.1
  gets_one Webhook Webhook written m n own h = gets_fit m.bay written m.hook n.hook own h.0

  abbrev pub All : Sink → ℕ → ℕ → List Due → List OfferNote → LanesState → LanesState → Type 0
  All sink bay before dues notes m n =
      Joined (told (lane_of sink m).tells) (lines_for keeps sink bay before dues notes) (told (lane_of sink n).tells)

  more : (own : Bool) (sink : Sink) (due : Due) (dues : List Due) (became : Outcome) (notes : List OfferNote) (m k n : LanesState)
      → GetsOne own sink due.fit became m k → k.bay ≡ m.bay
      → All sink k.bay (lane_of sink k).lines dues notes k n
      → Joined (told (lane_of sink m).tells)
      (if own
      then line_in keeps m.bay (lane_of sink m).lines due.fit became
      ++ lines_for keeps sink m.bay ((lane_of sink m).lines + count_in due.fit) dues notes
      else lines_for keeps sink m.bay (lane_of sink m).lines dues notes)
      (told (lane_of sink n).tells)
  more true sink due dues became notes m k n g b h =
      join _ (told (lane_of sink k).tells) _ _ _ g.0
      (subst (λ c. All sink m.bay c dues notes k n) g.1
      (subst (λ c. All sink c (lane_of sink k).lines dues notes k n) b h))
  more false sink due dues became notes m k n g b h =
      subst (λ (s : LaneState). Joined (told s.tells) (lines_for keeps sink m.bay s.lines dues notes) (told (lane_of sink n).tells)) g
      (subst (λ c. All sink c (lane_of sink k).lines dues notes k n) b h)

  pub gets_all : (sink : Sink) (dues : List Due) (m n : LanesState) (notes : List OfferNote) → OffersAll dues m notes n
      → All sink m.bay (lane_of sink m).lines dues notes m n
  gets_all sink [] m n notes h =
      joined_none (told (lane_of sink m).tells) (told (lane_of sink n).tells) (ap (λ s. told (lane_of sink s).tells) h.1)
  gets_all sink (due ∷ dues) m n notes h =
      subst (λ ns. All sink m.bay (lane_of sink m).lines (due ∷ dues) ns m n) (sym h.4)
      (more (is_for sink due.sink) sink due dues h.0 h.1 m h.2 n (gets_one sink due.sink due.fit m h.2 h.0 h.3)
      (one_bay due.sink due.fit m h.2 h.0 h.3) (gets_all sink dues h.2 n h.1 h.5))

pub adds_accepted : (m n : LaneTells) (line : Line) (queued : Bool) (own : Offer) → Offered m line queued own n
    → Joined m.accepted (kept_line (is_taken (outcome_of own)) line) n.accepted
adds_accepted m n line queued answer.Taken h = h.0
adds_accepted m n line queued (answer.Full back) h = joined_none m.accepted n.accepted h.2
adds_accepted m n line queued (answer.Failed back) h = h.2

pub adds_tried : (m n : LaneTells) (line : Line) (queued : Bool) (own : Offer) → Offered m line queued own n
    → Joined m.tried (kept_line (is_tried (outcome_of own)) line) n.tried
adds_tried m n line queued answer.Taken h = h.1
adds_tried m n line queued (answer.Full back) h = joined_none m.tried n.tried h.3
adds_tried m n line queued (answer.Failed back) h = h.3
