-- The bound of a line by the head and the user, and what follows of it.
use Rattle.std.proofs.Common.{◌≡◌, ℕ, ◌+◌, ◌*◌, ◌<◌, ◌≤◌, ◌^◌, length, nat_le, List, [], ◌∷◌, ◌++◌, Option, map, refl, arith}
use Rattle.std.specs.List.{AllByRecursion, find}
use Rattle.audit_core.specs.Errand.{attributes_in, user_in, info_in, acting_in, act_in, asker, other_of}
use Rattle.audit_core.specs.Exchange.{agent_by, agent_in, facts_by}
use Rattle.audit_core.specs.Offers.{Due, due_at, offers_due, sinks_on, CanBe, IsOutcome, AreNotes}
use Rattle.audit_core.specs.Owed.{owed_at, stages_due}
use Rattle.audit_core.specs.declared.offers.OfferNote.{OfferNote}
use Rattle.audit_core.specs.declared.offers.Outcome.{Outcome}
use Rattle.audit_core.specs.declared.offers.Outcome.TheVariants as outcome
use Rattle.audit_core.specs.declared.settings.Settings.{Settings}
use Rattle.audit_core.specs.declared.sinks.SinkMode.{SinkMode}
use Rattle.audit_core.specs.declared.stamp.Stamp.{Stamp}
use Rattle.event_text.specs.Line.{line_text, stripped}
use Rattle.front_base.specs.declared.level.Level.{Level}
use Rattle.front_base.specs.declared.level.Level.TheVariants as levels
use Rattle.front_base.specs.declared.stage.Stage.{Stage}
use Rattle.http_edge.specs.declared.request.Request.{Request}
use Rattle.http_head.specs.Name.{first_value, is_named}
use Rattle.http_head.specs.Request.{IsHeadOf}
use Rattle.http_head.specs.declared.header.Header.{Header}
use Rattle.policy_rules.specs.declared.omit.Omit.{Omit}
use Rattle.stage_event.specs.Events.{event, object_ref}
use Rattle.stage_event.specs.declared.event.Event.{Event}
use Rattle.stage_event.specs.declared.facts.Facts.{Facts}
use Rattle.stage_event.specs.declared.facts.Kept.{Kept}
use Rattle.token_users.specs.Act.{values, user_header, group_header}
use Rattle.token_users.specs.declared.acting.Act.{Act}
use Rattle.token_users.specs.declared.acting.Act.TheVariants as acts
use Rattle.truncate_backend.specs.Fits.{fitted, fitted_stripped}
use Rattle.truncate_backend.specs.declared.fitted.Fit.{Fit}
use Rattle.truncate_backend.specs.declared.fitted.Fit.TheVariants as fit
use Rattle.std.proofs.lemmas.Bool.{cond_both, leb-false}
use Rattle.line_bounds.specs.Bounds.{text_size, acting_size, named_size, texts_size, line_bound, HasRanges}
use Rattle.request_bounds.specs.Bounds.{user_length, most_line_bytes, IsStamp, IsWritten, IsOffered}
use Rattle.request_bounds.proofs.EventLemmas.{FactsHaveRanges, facts_bound, event-ranges, event-most}
use Rattle.request_bounds.proofs.HeadLemmas.{head-size, target-printed}
use Rattle.request_bounds.proofs.HeaderLemmas.{agent_header, agent_of, act_size, act-most, found-value, headers-most}
use Rattle.request_bounds.proofs.PathLemmas.{AnyIsBounded, PrintedIsBounded, SizesJoin, named-most, verb-most}
use Rattle.request_bounds.proofs.UserLemmas.{user-six}

-- ---- the texts of a request's facts

agent-size : AnyIsBounded → (hs : List Header) → text_size (agent_in hs) ≡ agent_of hs
unfolding first_value
agent-size any hs =
    let none = any [] in
    found-value (find (λ (h : Header). is_named agent_header h.name) hs) (λ (o : Option (List ℕ)). text_size (agent_by o)) (omega arith) (λ v. refl)

other-size : (act : Act) → acting_size (other_of act) ≡ act_size act
other-size acts.Own = refl
other-size (acts.As user) = refl
other-size acts.Unserved = refl
other-size acts.Bad = refl
other-size acts.Forbidden = refl

acting-most : AnyIsBounded → (set : Settings) (r : Request) →
    acting_size (acting_in set r) ≤ texts_size (values user_header r.head.headers) + texts_size (values group_header r.head.headers) + 23
unfolding act_in
acting-most any set r =
    let a = act-most any (asker set r) r.head in
    let b = other-size (act_in set r) in
    omega arith

request-verb : AnyIsBounded → (r : Request) → text_size (info_in r).verb ≤ 6 * length r.head.method + 16
unfolding info_in
request-verb any r = verb-most any r.head.method r.head.target

request-named : AnyIsBounded → PrintedIsBounded → SizesJoin → (r : Request) (block : List ℕ) → IsHeadOf block r.head →
    named_size (object_ref (info_in r)) ≤ 4 * length r.head.target
unfolding info_in
request-named any printed joined r block h =
    named-most any printed joined r.head.method r.head.target (target-printed block r.head h)

facts-most : AnyIsBounded → PrintedIsBounded → SizesJoin → (set : Settings) (stamp : Stamp) (r : Request) (status : ℕ) (request reply : Kept)
    (block : List ℕ) → IsHeadOf block r.head →
    facts_bound (facts_by stamp r (attributes_in set r) status request reply) ≤ most_line_bytes (length block) (user_length (user_in set r))
facts-most any printed joined set stamp r status request reply block h =
    let size = head-size block r.head h in
    let target = printed r.head.target (target-printed block r.head h) in
    let verb = request-verb any r in
    let user = user-six any (user_in set r) in
    let acting = acting-most any set r in
    let agent = agent-size any r.head.headers in
    let headers = headers-most any joined r.head.headers in
    let named = request-named any printed joined r block h in
    omega arith

facts-ranges : (set : Settings) (stamp : Stamp) (r : Request) (status : ℕ) (request reply : Kept) → IsStamp stamp → status < 2 ^ 16 →
    FactsHaveRanges (facts_by stamp r (attributes_in set r) status request reply)
facts-ranges set stamp r status request reply h few =
    record { peer = h.peer; status = few; received = h.received; started = h.started; complete = h.complete }

-- ---- the line

abbrev pub LinesAreBounded : Type 0
LinesAreBounded = (event : Event) → HasRanges event → length (line_text (stripped event)) ≤ line_bound event

pub line-most : AnyIsBounded → PrintedIsBounded → SizesJoin → LinesAreBounded → (set : Settings) (stamp : Stamp) (r : Request) (status : ℕ)
    (request reply : Kept) (stage : Stage) (level : Level) (block : List ℕ) → IsHeadOf block r.head → IsStamp stamp → status < 2 ^ 16 →
    length (line_text (stripped (event stage level (facts_by stamp r (attributes_in set r) status request reply))))
    ≤ most_line_bytes (length block) (user_length (user_in set r))
line-most any printed joined bounded set stamp r status request reply stage level block h ranges few =
    let facts : Facts = facts_by stamp r (attributes_in set r) status request reply in
    let a = bounded (event stage level facts) (event-ranges stage level facts (facts-ranges set stamp r status request reply ranges few)) in
    let b = event-most any stage level facts in
    let c = facts-most any printed joined set stamp r status request reply block h in
    omega arith

-- ---- what fits

pub written : (e : Event) (max : ℕ) → length (line_text (stripped e)) ≤ max → IsWritten (fitted e max)
written e max few =
    cond_both (nat_le (length (line_text e)) max) (fit.Whole (line_text e)) (fitted_stripped e max) IsWritten (λ h. tt)
    (λ h. cond_both (nat_le (length (line_text (stripped e))) max) (fit.Stripped (line_text (stripped e))) (fit.TooLarge (length (line_text (stripped e))))
    IsWritten (λ k. tt) (λ k. let more = leb-false (length (line_text (stripped e))) max k in absurd (omega arith)))

all-map : {A B : Type 0} (P : B → Type 0) (f : A → B) (xs : List A) → ((x : A) → P (f x)) → AllByRecursion P (map f xs)
all-map P f [] h = tt
all-map P f (x ∷ xs) h = (h x, all-map P f xs h)

pub all-owed : (P : Event → Type 0) (level : Level) (omit : Omit) (facts : Facts) → ((stage : Stage) (level : Level) → P (event stage level facts)) →
    AllByRecursion P (owed_at level omit facts)
all-owed P levels.None omit facts h = tt
all-owed P levels.Metadata omit facts h = all-map P (λ stage. event stage levels.Metadata facts) (stages_due omit facts.info) (λ stage. h stage levels.Metadata)
all-owed P levels.Request omit facts h = all-map P (λ stage. event stage levels.Request facts) (stages_due omit facts.info) (λ stage. h stage levels.Request)
all-owed P levels.RequestResponse omit facts h =
    all-map P (λ stage. event stage levels.RequestResponse facts) (stages_due omit facts.info) (λ stage. h stage levels.RequestResponse)

-- ---- what is noted

can-offer : (mode : SinkMode) (o : Outcome) → CanBe mode o → IsOffered o
can-offer mode outcome.Taken h = tt
can-offer mode outcome.Full h = tt
can-offer mode outcome.Failed h = tt
can-offer mode (outcome.TooLarge size) h = h

fit-offer : (mode : SinkMode) (f : Fit) (o : Outcome) → IsWritten f → IsOutcome mode f o → IsOffered o
fit-offer mode (fit.Whole line) o w h = can-offer mode o h
fit-offer mode (fit.Stripped line) o w h = can-offer mode o h
fit-offer mode (fit.TooLarge size) o w h = absurd w

abbrev IsDue : Due → Type 0
IsDue due = IsWritten due.fit

all-notes : (set : Settings) (dues : List Due) (notes : List OfferNote) → AllByRecursion IsDue dues → AreNotes set dues notes →
    AllByRecursion (λ (n : OfferNote). IsOffered n.outcome) notes
all-notes set [] [] w h = tt
all-notes set [] (note ∷ notes) w h = absurd h
all-notes set (due ∷ dues) [] w h = absurd h
all-notes set (due ∷ dues) (note ∷ notes) w h =
    (fit-offer _ due.fit note.outcome w.0 h.0.outcome_is, all-notes set dues notes w.1 h.1)

all-append : {A : Type 0} (P : A → Type 0) (xs ys : List A) → AllByRecursion P xs → AllByRecursion P ys → AllByRecursion P (xs ++ ys)
all-append P [] ys h k = k
all-append P (x ∷ xs) ys h k = (h.0, all-append P xs ys h.1 k)

all-due : (set : Settings) (events : List Event) → AllByRecursion (λ (e : Event). IsWritten (fitted e set.max_event)) events →
    AllByRecursion IsDue (offers_due set events)
all-due set [] h = tt
all-due set (e ∷ es) h =
    all-append IsDue (map (due_at set e) (sinks_on set)) (offers_due set es)
    (all-map IsDue (due_at set e) (sinks_on set) (λ sink. h.0)) (all-due set es h.1)

pub none-too-large : (set : Settings) (events : List Event) (notes : List OfferNote) →
    AllByRecursion (λ (e : Event). IsWritten (fitted e set.max_event)) events → AreNotes set (offers_due set events) notes →
    AllByRecursion (λ (n : OfferNote). IsOffered n.outcome) notes
none-too-large set events notes w h = all-notes set (offers_due set events) notes (all-due set events w) h
