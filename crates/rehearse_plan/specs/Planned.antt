-- What each request of a rehearsal comes to (Kubernetes, "Auditing" and "API Aggregation Layer").
use Rattle.std.specs.Prelude.{◌≡◌, ℕ, if◌then◌else◌, List, map, length, slice_get, IfSome}
use Rattle.audit_core.specs.declared.link_note.LinkNote.{LinkNote}
use Rattle.audit_core.specs.declared.link_note.LinkNote.TheVariants.{NotUsed, Whole}
use Rattle.audit_core.specs.declared.offers.OfferNote.{OfferNote}
use Rattle.audit_core.specs.declared.offers.Outcome.TheVariants.{Taken}
use Rattle.audit_core.specs.declared.sinks.Sink.TheVariants.{Webhook}
use Rattle.front_base.specs.declared.stage.Stage.{Stage}
use Rattle.http_edge.specs.declared.request.Request.{Request}
use Rattle.rehearse_plan.specs.Kinds.{kind_at, is_proxied, level_of, method_of, stages_of, status_of}
use Rattle.rehearse_plan.specs.Requests.{body_of, number_of, share, target_of}
use Rattle.rehearse_plan.specs.declared.kind.Kind.{Kind}
use Rattle.session_core.specs.declared.exchange.Exchange.{Exchange}

-- the request of that kind and number
pub record IsMade (kind : Kind) (number : ℕ) (r : Request) : Type 0 where
  pub method : r.head.method ≡ method_of kind
  pub target : r.head.target ≡ target_of kind number
  pub body : r.body ≡ body_of kind number

-- the webhook took the event of that stage
abbrev pub taken : Stage → OfferNote
taken stage = record { sink = Webhook; stage = stage; outcome = Taken }

-- and of each stage that is due
abbrev pub taken_of : Kind → List OfferNote
taken_of kind = map taken (stages_of kind)

-- what is sent on is replied to whole, and nothing else is sent on
abbrev pub link_of : Kind → LinkNote
link_of kind = if is_proxied kind then Whole (status_of kind) else NotUsed

-- the exchange of that request: its level, its status, what became of its link, and of its events
pub record IsPlanned (kind : Kind) (number : ℕ) (x : Exchange) : Type 0 where
  pub request : IsMade kind number x.request
  pub level : x.decision.level ≡ level_of kind
  pub status : x.facts.status ≡ status_of kind
  pub link : x.link ≡ link_of kind
  pub offers : x.offers ≡ taken_of kind

-- the exchanges of all requests of a bay, in order
pub record Follows (start count bays bay : ℕ) (xs : List Exchange) : Type 0 where
  pub all : length xs ≡ share count bays bay
  pub each : (turn : ℕ) → IfSome (slice_get xs turn) (IsPlanned (kind_at start (number_of bays bay turn)) (number_of bays bay turn))
