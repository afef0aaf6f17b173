-- How many events of a run of `explain` are too large.
use Rattle.std.proofs.Common.{◌≡◌, ◌≤◌, ◌<◌, ◌+◌, ◌^◌, ℕ, Bool, true, false, cond, if◌then◌else◌, List, [], ◌∷◌, ◌++◌, Option, inl, inr, refl, ap₂, sym, ◌∙◌, subst, arith, lit≤}
use Rattle.std.proofs.lemmas.List.Elements.{All-from_recursion}
use Rattle.std.proofs.lemmas.List.Sums.{sum_by-cons}
use Rattle.std.specs.List.{AllByRecursion}
use Rattle.apiservice_rows.specs.Row.{Row}
use Rattle.audit_core.specs.Answer.{status_of}
use Rattle.audit_core.specs.Errand.{errand_in}
use Rattle.audit_core.specs.Exchange.{IsAnswered}
use Rattle.audit_core.specs.Owed.{owed}
use Rattle.audit_core.specs.Routing.{handling_of}
use Rattle.audit_core.specs.declared.answered.Answered.{Answered}
use Rattle.audit_core.specs.declared.errand.Errand.{Errand}
use Rattle.audit_core.specs.declared.link_note.LinkNote.{LinkNote}
use Rattle.audit_core.specs.declared.routed.Handling.{Handling}
use Rattle.audit_core.specs.declared.routed.Handling.TheVariants.{Refused, Served, Proxied}
use Rattle.audit_core.specs.declared.settings.Settings.{Settings}
use Rattle.audit_core.specs.declared.stamp.Stamp.{Stamp}
use Rattle.command_ends.specs.Ports.{FilesPort, Port}
use Rattle.command_ends.specs.declared.status.Status.{Status}
use Rattle.command_ends.specs.declared.status.Status.TheVariants as stop
use Rattle.exchange_replies.specs.Statuses.{IsFinalErrand, IsFinalHandling}
use Rattle.explain_run.specs.Desk.{Configures, Run}
use Rattle.explain_run.specs.Lines.{AreLines, IsLines, empty_reply, own_address, stamp_of, rows_after}
use Rattle.explain_run.specs.Pushing.{is_too_large, too_large}
use Rattle.explain_run.specs.Serving.{FirstOf, Serves}
use Rattle.explain_run.specs.declared.setup.Setup.{Setup}
use Rattle.front_base.specs.declared.moment.TheConstants.{MOMENT_END}
use Rattle.http_edge.specs.Requests.{IsRequests, ReadsTo, StartsWith, asks, on_asks}
use Rattle.http_edge.specs.declared.request.End.{End}
use Rattle.http_edge.specs.declared.request.End.TheVariants.{Asked}
use Rattle.http_edge.specs.declared.request.Request.{Request}
use Rattle.line_bounds.specs.Bounds.{IsAddress}
use Rattle.refusal_text.specs.declared.refusal.Refusal.{Refusal}
use Rattle.request_bounds.specs.Bounds.{IsStamp, IsWritten, line_limit}
use Rattle.service_endpoints.specs.declared.endpoint.Endpoint.{Endpoint}
use Rattle.stage_event.specs.declared.event.Event.{Event}
use Rattle.truncate_backend.specs.Fits.{fitted}
use Rattle.truncate_backend.specs.declared.fitted.Fit.{Fit}
use Rattle.truncate_backend.specs.declared.fitted.Fit.TheVariants as fit

-- the laws that are called
abbrev pub OwedFit : Type 0
OwedFit =
    (set : Settings) (stamp : Stamp) (r : Request) (handling : Handling) (note : LinkNote) (body : List ℕ) (x : Answered) (bytes after : List ℕ) (max : ℕ)
    → StartsWith bytes r after → IsStamp stamp → status_of handling note < 2 ^ 16 → IsAnswered set stamp r handling note body x → line_limit set.tokens ≤ max
    → AllByRecursion (λ (e : Event). IsWritten (fitted e max)) (owed x.decision x.facts)

abbrev pub FinalErrands : Type 0
FinalErrands = (set : Settings) (r : Request) (moment : ℕ) → IsFinalErrand (errand_in set r moment)

abbrev pub FinalHandlings : Type 0
FinalHandlings = (ends : List Endpoint) (rows : List Row) (own : Errand) → IsFinalErrand own → IsFinalHandling (handling_of ends rows own)

-- ---- requests of bytes

record WasRead (r : Request) : Type 0 where
  pub bytes : List ℕ
  pub after : List ℕ
  pub starts : StartsWith bytes r after

by_asks : (b : Bool) (P Q X : Type 0) → on_asks b P Q → (P → X) → (Q → X) → X
by_asks true P Q X h f g = f h
by_asks false P Q X h f g = g h

none_read : (rs : List Request) → rs ≡ [] → AllByRecursion WasRead rs
none_read rs e = subst (AllByRecursion WasRead) (sym e) tt

first_read : (bytes : List ℕ) (rs : List Request) → FirstOf bytes rs → AllByRecursion WasRead rs
first_read bytes [] h = tt
first_read bytes (r ∷ rs) h = (
  record { bytes = bytes; after = h.0; starts = h.1 },
  by_asks (asks r) (rs ≡ []) (FirstOf h.0 rs) (AllByRecursion WasRead rs) h.2 (none_read rs) (first_read h.0 rs),
)

all_read : (bytes : List ℕ) (rs : List Request) (end : End) → IsRequests bytes rs end → AllByRecursion WasRead rs
all_read bytes [] end h = tt
all_read bytes (r ∷ rs) end h = (
  record { bytes = bytes; after = h.0; starts = h.1 },
  by_asks (asks r) ((rs ≡ []) × (end ≡ Asked)) (IsRequests h.0 rs end) (AllByRecursion WasRead rs) h.2 (λ last. none_read rs last.0) (all_read h.0 rs end),
)

whole_read : (bytes : List ℕ) (rs : List Request) (rest : List ℕ) → ReadsTo bytes rs rest → AllByRecursion WasRead rs
whole_read bytes [] rest h = tt
whole_read bytes (r ∷ rs) rest h = (record { bytes = bytes; after = h.0; starts = h.1 }, whole_read h.0 rs rest h.3)

before_last : (rs more : List Request) → AllByRecursion WasRead (rs ++ more) → AllByRecursion WasRead rs
before_last [] more h = tt
before_last (r ∷ rs) more h = (h.0, before_last rs more h.1)

-- ---- one request

own_is_address : IsAddress own_address
own_is_address =
    (refl, All-from_recursion (λ b. b < 256) (127 ∷ 0 ∷ 0 ∷ 1 ∷ []) (lit≤ tt, (lit≤ tt, (lit≤ tt, (lit≤ tt, tt)))))

own_stamp : (moment number : ℕ) → moment < MOMENT_END → IsStamp (stamp_of moment number)
own_stamp moment number h = record { peer = own_is_address; received = h; started = h; complete = h }

below_word : (n : ℕ) → n < 1000 → n < 2 ^ 16
below_word n h = omega (arith, h)

final_is_short : (handling : Handling) → IsFinalHandling handling → status_of handling empty_reply < 2 ^ 16
final_is_short (Refused code) h = below_word code h.1
final_is_short (Served local reply change) h = below_word reply.status h.1
final_is_short (Proxied target) h = lit≤ tt

-- how many events it leaves out
abbrev left_out : Fit → ℕ
left_out written = cond (is_too_large written) 1 0

not_large : (written : Fit) → IsWritten written → left_out written ≡ 0
not_large (fit.Whole line) h = refl
not_large (fit.Stripped line) h = refl
not_large (fit.TooLarge size) h = absurd h

none_large : (max : ℕ) (events : List Event) → AllByRecursion (λ (e : Event). IsWritten (fitted e max)) events → too_large max events ≡ 0
none_large max [] h = refl
none_large max (e ∷ events) h =
    sum_by-cons (λ (own : Event). left_out (fitted own max)) e events
    ∙ ap₂ (λ (own rest : ℕ). own + rest) (not_large (fitted e max) h.0) (none_large max events h.1)

none_unless : (routes : Bool) (n : ℕ) → n ≡ 0 → (if routes then 0 else n) ≡ 0
none_unless true n e = refl
none_unless false n e = e

module _ (fits : OwedFit) (errands : FinalErrands) (handlings : FinalHandlings) (set : Setup) (limit : line_limit set.settings.tokens ≤ set.settings.max_event)
    (moment : set.moment < MOMENT_END) where
  one_has_none : (rows : List Row) (number : ℕ) (r : Request) (text : List ℕ) (large : ℕ) → WasRead r → IsLines set rows number r text large → large ≡ 0
  one_has_none rows number r text large read h =
      h.large_is
      ∙ none_unless set.routes (too_large set.settings.max_event (owed h.answered.decision h.answered.facts))
      (none_large set.settings.max_event (owed h.answered.decision h.answered.facts)
      (fits set.settings (stamp_of set.moment number) r (handling_of set.settings.endpoints rows (errand_in set.settings r set.moment)) empty_reply [] h.answered
      read.bytes read.after set.settings.max_event read.starts (own_stamp set.moment number moment)
      (final_is_short (handling_of set.settings.endpoints rows (errand_in set.settings r set.moment))
      (handlings set.settings.endpoints rows (errand_in set.settings r set.moment) (errands set.settings r set.moment)))
      h.is limit))

  all_have_none : (rows : List Row) (number : ℕ) (rs : List Request) (text : List ℕ) (large : ℕ) → AllByRecursion WasRead rs → AreLines set number rows rs text large
      → large ≡ 0
  all_have_none rows number [] text large read h = h.1
  all_have_none rows number (r ∷ rs) text large read h =
      h.7
      ∙ ap₂ (λ (own rest : ℕ). own + rest) (one_has_none rows number r h.0 h.2 read.0 h.4)
      (all_have_none (rows_after set rows r) (number + 1) rs h.1 h.3 read.1 h.5)

  pub serves_none : (rows : List Row) (input output : Port) (large : ℕ) (status : Status) → Serves set rows input output large status → large ≡ 0
  serves_none rows input output large stop.Done h = all_have_none rows 0 h.2.requests h.2.text large (all_read h.2.taken h.2.requests h.0 h.2.list) h.2.lines
  serves_none rows input output large stop.Input h = all_have_none rows 0 h.2.requests h.2.text large (all_read h.2.taken h.2.requests h.0 h.2.list) h.2.lines
  serves_none rows input output large stop.ReadFault h =
      all_have_none rows 0 h.1.requests h.1.text large (whole_read h.1.taken h.1.requests h.1.rest h.1.reads) h.1.lines
  serves_none rows input output large stop.WriteFault h =
      all_have_none rows 0 h.1.requests h.1.text large (first_read h.1.taken h.1.requests h.1.first) h.1.lines
  serves_none rows input output large stop.NumbersSpent h =
      all_have_none rows 0 h.requests h.text large (before_last h.requests (h.next ∷ []) (first_read h.taken (h.requests ++ h.next ∷ []) h.first)) h.lines
  serves_none rows input output large stop.NoMemory h = all_have_none rows 0 h.requests h.text large (first_read h.taken h.requests h.first) h.lines
  serves_none rows input output large stop.Usage h = absurd h
  serves_none rows input output large stop.Configuration h = absurd h
  serves_none rows input output large stop.PortFault h = absurd h
  serves_none rows input output large stop.Log h = absurd h
  serves_none rows input output large stop.NotDelivered h = absurd h
  serves_none rows input output large stop.NothingListed h = absurd h

pub run_has_none : OwedFit → FinalErrands → FinalHandlings → (words : List (List ℕ)) (files : FilesPort) (input output : Port) (status : Status) (why : Option Refusal)
    (large : ℕ) → Run words files input output status why large
    → ((set : Setup) (rows : List Row) → Configures words files.before.told set rows → line_limit set.settings.tokens ≤ set.settings.max_event)
    → ((set : Setup) (rows : List Row) → Configures words files.before.told set rows → set.moment < MOMENT_END)
    → large ≡ 0
run_has_none fits errands handlings words files input output status why large (inl h) limit moment = h.3
run_has_none fits errands handlings words files input output status why large (inr h) limit moment =
    serves_none fits errands handlings h.0 (limit h.0 h.1 h.2) (moment h.0 h.1 h.2) h.1 input output large status h.4
