-- What offers keep, one after another.
use Rattle.std.proofs.Common.{◌≡◌, ◌+◌, ◌<◌, ◌≤◌, ◌-◌, ◌^◌, ◌&&◌, min, ◌⊎◌, inl, inr, ℕ, zero, suc, Bool, true, false, if◌then◌else◌, List, [], ◌∷◌, ◌++◌, length, length-append, refl, sym, ap, ◌∙◌, arith}
use Rattle.std.proofs.lemmas.List.Elements.{All-cons, All-head, All-nil, All-same, All-tail}
use Rattle.audit_core.specs.Offers.{Due}
use Rattle.audit_core.specs.declared.offers.OfferNote.{OfferNote}
use Rattle.audit_core.specs.declared.offers.Outcome.{Outcome}
use Rattle.audit_core.specs.declared.offers.Outcome.TheVariants as outcome
use Rattle.audit_core.specs.declared.sinks.Sink.{Sink}
use Rattle.audit_core.specs.declared.sinks.Sink.TheVariants.{Log, Webhook}
use Rattle.connection_laws.specs.Whole.{count_of, one_if, is_full, is_failure}
use Rattle.event_offers.specs.Lanes.{LaneState, LanesState}
use Rattle.event_offers.specs.Offering.{OffersAll, OffersTo, OffersFit, OffersLine, next_line, note_of, outcome_of}
use Rattle.event_offers.specs.Taken.{lane_of, is_taken, is_for, kept_line, line_in, count_in, lines_for}
use Rattle.front_base.specs.Line.{Line}
use Rattle.run_laws.specs.Kept.{AllFit, AllTaken, has_line, line_due, lines_due}
use Rattle.truncate_backend.specs.Lanes.{LaneTells, Offered}
use Rattle.truncate_backend.specs.Told.{CountsBy}
use Rattle.truncate_backend.specs.declared.fitted.Fit.{Fit}
use Rattle.truncate_backend.specs.declared.fitted.Fit.TheVariants as fit
use Rattle.truncate_backend.specs.declared.lane.Offer.{Offer}
use Rattle.truncate_backend.specs.declared.lane.Offer.TheVariants as answer

-- ---- one offer

-- what doesn't fit is too large, and else a lane answered
abbrev Becomes : Fit → Outcome → Type 0
Becomes (fit.Whole bytes) own = (answered : Offer) × (own ≡ outcome_of answered)
Becomes (fit.Stripped bytes) own = (answered : Offer) × (own ≡ outcome_of answered)
Becomes (fit.TooLarge size) own = own ≡ outcome.TooLarge size

fit_becomes : (bay : ℕ) (written : Fit) (m n : LaneState) (own : Outcome) → OffersFit bay written m own n → Becomes written own
fit_becomes bay (fit.Whole bytes) m n own h = (h.answer, h.outcome_is)
fit_becomes bay (fit.Stripped bytes) m n own h = (h.answer, h.outcome_is)
fit_becomes bay (fit.TooLarge size) m n own h = h.0

one_becomes : (to : Sink) (written : Fit) (m n : LanesState) (own : Outcome) → OffersTo to written m own n → Becomes written own
one_becomes Log written m n own h = fit_becomes m.bay written m.log n.log own h.0
one_becomes Webhook written m n own h = fit_becomes m.bay written m.hook n.hook own h.0

-- ---- where none was refused

was_taken : (own : Outcome) (a : Offer) → own ≡ outcome_of a → one_if (is_full own) ≡ 0 → one_if (is_failure own) ≡ 0 → own ≡ outcome.Taken
was_taken own answer.Taken e f g = e
was_taken own (answer.Full back) e f g = absurd (omega (arith, ap (λ o. one_if (is_full o)) e, f))
was_taken own (answer.Failed back) e f g = absurd (omega (arith, ap (λ o. one_if (is_failure o)) e, g))

-- what adds a line where it was taken
module _ (keeps : Outcome → Bool) (taken : keeps outcome.Taken ≡ true) where
  line_kept : (bay before : ℕ) (written : Fit) (own : Outcome) → Becomes written own → one_if (is_full own) ≡ 0 → one_if (is_failure own) ≡ 0
      → line_in keeps bay before written own ≡ line_due bay before written
  line_kept bay before (fit.Whole bytes) own b f g =
      ap (λ k. kept_line k (record { bay = bay; number = before; bytes = bytes })) (ap keeps (was_taken own b.0 b.1 f g) ∙ taken)
  line_kept bay before (fit.Stripped bytes) own b f g =
      ap (λ k. kept_line k (record { bay = bay; number = before; bytes = bytes })) (ap keeps (was_taken own b.0 b.1 f g) ∙ taken)
  line_kept bay before (fit.TooLarge size) own b f g = refl

  more_kept : (mine : Bool) (sink : Sink) (bay before : ℕ) (due : Due) (dues : List Due) (own : Outcome) (notes : List OfferNote) → Becomes due.fit own
      → one_if (mine && is_full own) ≡ 0 → one_if (mine && is_failure own) ≡ 0
      → ((k : ℕ) → lines_for keeps sink bay k dues notes ≡ lines_due sink bay k dues)
      → (if mine then line_in keeps bay before due.fit own ++ lines_for keeps sink bay (before + count_in due.fit) dues notes
      else lines_for keeps sink bay before dues notes)
      ≡ (if mine then line_due bay before due.fit ++ lines_due sink bay (before + count_in due.fit) dues else lines_due sink bay before dues)
  more_kept true sink bay before due dues own notes b f g rest =
      ap (λ l. l ++ lines_for keeps sink bay (before + count_in due.fit) dues notes) (line_kept bay before due.fit own b f g)
      ∙ ap (λ l. line_due bay before due.fit ++ l) (rest (before + count_in due.fit))
  more_kept false sink bay before due dues own notes b f g rest = rest before

  -- the lines that were kept are those that are due
  pub all_kept : (sink : Sink) (dues : List Due) (m n : LanesState) (notes : List OfferNote) → OffersAll dues m notes n
      → count_of is_full sink notes ≡ 0 → count_of is_failure sink notes ≡ 0
      → (bay before : ℕ) → lines_for keeps sink bay before dues notes ≡ lines_due sink bay before dues
  all_kept sink [] m n notes h f g bay before = refl
  all_kept sink (due ∷ dues) m n notes h f g bay before =
      let full : one_if (is_for sink due.sink && is_full h.0) + count_of is_full sink h.1 ≡ 0 = sym (ap (count_of is_full sink) h.4) ∙ f in
      let failed : one_if (is_for sink due.sink && is_failure h.0) + count_of is_failure sink h.1 ≡ 0 =
      sym (ap (count_of is_failure sink) h.4) ∙ g in
      ap (lines_for keeps sink bay before (due ∷ dues)) h.4
      ∙ more_kept (is_for sink due.sink) sink bay before due dues h.0 h.1 (one_becomes due.sink due.fit m h.2 h.0 h.3)
      (omega (arith, full)) (omega (arith, failed))
      (all_kept sink dues h.2 n h.1 h.5 (omega (arith, full)) (omega (arith, failed)) bay)

one_taken : (mine : Bool) (written : Fit) (own : Outcome) → Becomes written own → one_if (mine && is_full own) ≡ 0
    → one_if (mine && is_failure own) ≡ 0 → (mine ≡ true → has_line written ≡ true) → mine ≡ true → own ≡ outcome.Taken
one_taken true (fit.Whole bytes) own b f g fits e = was_taken own b.0 b.1 f g
one_taken true (fit.Stripped bytes) own b f g fits e = was_taken own b.0 b.1 f g
one_taken true (fit.TooLarge size) own b f g fits e = let z = fits refl in cc
one_taken false written own b f g fits e = cc

-- each offer of what fits was taken
pub all_taken : (sink : Sink) (dues : List Due) (m n : LanesState) (notes : List OfferNote) → OffersAll dues m notes n
    → count_of is_full sink notes ≡ 0 → count_of is_failure sink notes ≡ 0 → AllFit sink dues → AllTaken sink notes
all_taken sink [] m n notes h f g fits =
    All-same (λ (note : OfferNote). is_for sink note.sink ≡ true → note.outcome ≡ outcome.Taken) notes [] h.0
    (All-nil (λ (note : OfferNote). is_for sink note.sink ≡ true → note.outcome ≡ outcome.Taken))
all_taken sink (due ∷ dues) m n notes h f g fits =
    let full : one_if (is_for sink due.sink && is_full h.0) + count_of is_full sink h.1 ≡ 0 = sym (ap (count_of is_full sink) h.4) ∙ f in
    let failed : one_if (is_for sink due.sink && is_failure h.0) + count_of is_failure sink h.1 ≡ 0 =
    sym (ap (count_of is_failure sink) h.4) ∙ g in
    let here = All-head (λ (d : Due). is_for sink d.sink ≡ true → has_line d.fit ≡ true) due dues fits in
    All-same (λ (note : OfferNote). is_for sink note.sink ≡ true → note.outcome ≡ outcome.Taken) notes (note_of due h.0 ∷ h.1) h.4
    (All-cons (λ (note : OfferNote). is_for sink note.sink ≡ true → note.outcome ≡ outcome.Taken) (note_of due h.0) h.1
    (one_taken (is_for sink due.sink) due.fit h.0 (one_becomes due.sink due.fit m h.2 h.0 h.3) (omega (arith, full)) (omega (arith, failed)) here)
    (all_taken sink dues h.2 n h.1 h.5 (omega (arith, full)) (omega (arith, failed))
    (All-tail (λ (d : Due). is_for sink d.sink ≡ true → has_line d.fit ≡ true) due dues fits)))

-- ---- how many were taken

answer_counted : (l : Line) (own : Outcome) (a : Offer) → own ≡ outcome_of a
    → length (kept_line (is_taken own) l) + one_if (is_full own) + one_if (is_failure own) ≡ 1
answer_counted l own answer.Taken e =
    ap (λ o. length (kept_line (is_taken o) l) + one_if (is_full o) + one_if (is_failure o)) e
answer_counted l own (answer.Full back) e =
    ap (λ o. length (kept_line (is_taken o) l) + one_if (is_full o) + one_if (is_failure o)) e
answer_counted l own (answer.Failed back) e =
    ap (λ o. length (kept_line (is_taken o) l) + one_if (is_full o) + one_if (is_failure o)) e

line_counted : (bay before : ℕ) (written : Fit) (own : Outcome) → Becomes written own
    → length (line_in is_taken bay before written own) + one_if (is_full own) + one_if (is_failure own) ≡ length (line_due bay before written)
line_counted bay before (fit.Whole bytes) own b =
    answer_counted (record { bay = bay; number = before; bytes = bytes }) own b.0 b.1
line_counted bay before (fit.Stripped bytes) own b =
    answer_counted (record { bay = bay; number = before; bytes = bytes }) own b.0 b.1
line_counted bay before (fit.TooLarge size) own b =
    omega (arith, ap (λ o. one_if (is_full o) + one_if (is_failure o)) b)

more_counted : (mine : Bool) (sink : Sink) (bay before : ℕ) (due : Due) (dues : List Due) (own : Outcome) (notes : List OfferNote) → Becomes due.fit own
    → ((k : ℕ) → length (lines_for is_taken sink bay k dues notes) + count_of is_full sink notes + count_of is_failure sink notes
    ≡ length (lines_due sink bay k dues))
    → length (if mine then line_in is_taken bay before due.fit own ++ lines_for is_taken sink bay (before + count_in due.fit) dues notes
    else lines_for is_taken sink bay before dues notes)
    + (one_if (mine && is_full own) + count_of is_full sink notes) + (one_if (mine && is_failure own) + count_of is_failure sink notes)
    ≡ length (if mine then line_due bay before due.fit ++ lines_due sink bay (before + count_in due.fit) dues else lines_due sink bay before dues)
more_counted true sink bay before due dues own notes b rest =
    omega (
      arith,
      line_counted bay before due.fit own b,
      rest (before + count_in due.fit),
      length-append (line_in is_taken bay before due.fit own) (lines_for is_taken sink bay (before + count_in due.fit) dues notes),
      length-append (line_due bay before due.fit) (lines_due sink bay (before + count_in due.fit) dues),
    )
more_counted false sink bay before due dues own notes b rest = omega (arith, rest before)

-- of the lines that are due each was taken, or found the lane full, or failed
pub all_counted : (sink : Sink) (dues : List Due) (m n : LanesState) (notes : List OfferNote) → OffersAll dues m notes n
    → (bay before : ℕ) → length (lines_for is_taken sink bay before dues notes) + count_of is_full sink notes + count_of is_failure sink notes
    ≡ length (lines_due sink bay before dues)
all_counted sink [] m n notes h bay before =
    omega (arith, ap (λ l. count_of is_full sink l + count_of is_failure sink l) h.0)
all_counted sink (due ∷ dues) m n notes h bay before =
    ap (λ l. length (lines_for is_taken sink bay before (due ∷ dues) l) + count_of is_full sink l + count_of is_failure sink l) h.4
    ∙ more_counted (is_for sink due.sink) sink bay before due dues h.0 h.1 (one_becomes due.sink due.fit m h.2 h.0 h.3)
    (all_counted sink dues h.2 n h.1 h.5 bay)

-- ---- a queue with room for all

one_way : (room sums own due taken full failed : ℕ) → taken + full + failed ≡ due → sums ≤ room → due ≤ own
    → (taken ≡ own) ⊎ (room + own ≤ taken + sums) → full ≡ 0
one_way room sums own due taken full failed c r d (inl e) = omega (arith, c, d, e)
one_way room sums own due taken full failed c r d (inr e) = omega (arith, c, r, d, e)

-- a bay that owes no more than its allotment finds no lane full, where there is room for all allotments
pub never_full : (room sums own due taken full failed : ℕ) → taken + full + failed ≡ due → sums ≤ room → due ≤ own
    → (0 < full → (taken ≡ own) ⊎ (room + own ≤ taken + sums)) → full ≡ 0
never_full room sums own due taken zero failed c r d why = refl
never_full room sums own due taken (suc k) failed c r d why =
    one_way room sums own due taken (suc k) failed c r d (why (omega arith))

-- no offer to a queue fails
queue_takes : (m n : LaneTells) (line : Line) (queued : Bool) (a : Offer) → Offered m line queued a n → queued ≡ true
    → one_if (is_failure (outcome_of a)) ≡ 0
queue_takes m n line queued answer.Taken h q = refl
queue_takes m n line queued (answer.Full back) h q = refl
queue_takes m n line queued (answer.Failed back) h q = let z = h.1 in absurd (cc)

line_queued : (bay : ℕ) (bytes : List ℕ) (m n : LaneState) (own : Outcome) → OffersLine bay bytes m own n → m.queued ≡ true
    → (one_if (is_failure own) ≡ 0) × (n.queued ≡ true)
line_queued bay bytes m n own h q = (
  ap (λ o. one_if (is_failure o)) h.outcome_is ∙ queue_takes m.tells n.tells (next_line bay m bytes) m.queued h.answer h.offered q,
  ap (λ (s : LaneState). s.queued) h.after ∙ q,
)

fit_queued : (bay : ℕ) (written : Fit) (m n : LaneState) (own : Outcome) → OffersFit bay written m own n → m.queued ≡ true
    → (one_if (is_failure own) ≡ 0) × (n.queued ≡ true)
fit_queued bay (fit.Whole bytes) m n own h q = line_queued bay bytes m n own h q
fit_queued bay (fit.Stripped bytes) m n own h q = line_queued bay bytes m n own h q
fit_queued bay (fit.TooLarge size) m n own h q =
    (ap (λ o. one_if (is_failure o)) h.0, ap (λ (s : LaneState). s.queued) h.1 ∙ q)

one_queued : (sink to : Sink) (written : Fit) (m n : LanesState) (own : Outcome) → OffersTo to written m own n
    → (lane_of sink m).queued ≡ true → (one_if (is_for sink to && is_failure own) ≡ 0) × ((lane_of sink n).queued ≡ true)
one_queued Log Log written m n own h q = fit_queued m.bay written m.log n.log own h.0 q
one_queued Log Webhook written m n own h q = (refl, ap (λ (s : LanesState). s.log.queued) h.1 ∙ q)
one_queued Webhook Log written m n own h q = (refl, ap (λ (s : LanesState). s.hook.queued) h.1 ∙ q)
one_queued Webhook Webhook written m n own h q = fit_queued m.bay written m.hook n.hook own h.0 q

pub none_failed : (sink : Sink) (dues : List Due) (m n : LanesState) (notes : List OfferNote) → OffersAll dues m notes n
    → (lane_of sink m).queued ≡ true → count_of is_failure sink notes ≡ 0
none_failed sink [] m n notes h q = ap (count_of is_failure sink) h.0
none_failed sink (due ∷ dues) m n notes h q =
    let one = one_queued sink due.sink due.fit m h.2 h.0 h.3 q in
    ap (count_of is_failure sink) h.4 ∙ omega (arith, one.0, none_failed sink dues h.2 n h.1 h.5 one.1)

-- ---- a count that stayed

pub none_counted : (before more after : ℕ) → CountsBy before more after → before ≡ 0 → after ≡ 0 → more ≡ 0
none_counted before more after c new e = let is = c (omega (arith, new)) in omega (arith, is, new, e)

-- ---- how many lines were offered

line_offered : (bay : ℕ) (written : Fit) (m n : LaneState) (own : Outcome) → OffersFit bay written m own n
    → (k before : ℕ) → n.lines ≡ m.lines + length (line_due k before written)
line_offered bay (fit.Whole bytes) m n own h k before = ap (λ (s : LaneState). s.lines) h.after
line_offered bay (fit.Stripped bytes) m n own h k before = ap (λ (s : LaneState). s.lines) h.after
line_offered bay (fit.TooLarge size) m n own h k before = omega (arith, ap (λ (s : LaneState). s.lines) h.1)

-- what one offer does to the count of a lane
abbrev OneOffered : Bool → Sink → Fit → LanesState → LanesState → Type 0
OneOffered true sink written m n = (k before : ℕ) → (lane_of sink n).lines ≡ (lane_of sink m).lines + length (line_due k before written)
OneOffered false sink written m n = (lane_of sink n).lines ≡ (lane_of sink m).lines

one_offered : (sink to : Sink) (written : Fit) (m n : LanesState) (own : Outcome) → OffersTo to written m own n
    → OneOffered (is_for sink to) sink written m n
one_offered Log Log written m n own h = line_offered m.bay written m.log n.log own h.0
one_offered Log Webhook written m n own h = ap (λ (s : LanesState). s.log.lines) h.1
one_offered Webhook Log written m n own h = ap (λ (s : LanesState). s.hook.lines) h.1
one_offered Webhook Webhook written m n own h = line_offered m.bay written m.hook n.hook own h.0

more_offered : (mine : Bool) (sink : Sink) (bay before : ℕ) (due : Due) (dues : List Due) (m k n : LanesState)
    → OneOffered mine sink due.fit m k
    → ((b : ℕ) → (lane_of sink n).lines ≡ (lane_of sink k).lines + length (lines_due sink bay b dues))
    → (lane_of sink n).lines ≡ (lane_of sink m).lines
    + length (if mine then line_due bay before due.fit ++ lines_due sink bay (before + count_in due.fit) dues else lines_due sink bay before dues)
more_offered true sink bay before due dues m k n one rest =
    omega (
      arith,
      one bay before,
      rest (before + count_in due.fit),
      length-append (line_due bay before due.fit) (lines_due sink bay (before + count_in due.fit) dues),
    )
more_offered false sink bay before due dues m k n one rest = omega (arith, one, rest before)

-- a bay offers as many lines as are due
pub all_offered : (sink : Sink) (dues : List Due) (m n : LanesState) (notes : List OfferNote) → OffersAll dues m notes n
    → (bay before : ℕ) → (lane_of sink n).lines ≡ (lane_of sink m).lines + length (lines_due sink bay before dues)
all_offered sink [] m n notes h bay before = omega (arith, ap (λ (s : LanesState). (lane_of sink s).lines) h.1)
all_offered sink (due ∷ dues) m n notes h bay before =
    more_offered (is_for sink due.sink) sink bay before due dues m h.2 n (one_offered sink due.sink due.fit m h.2 h.0 h.3)
    (all_offered sink dues h.2 n h.1 h.5 bay)
