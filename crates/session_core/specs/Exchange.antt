-- What one request does (Kubernetes, "API Aggregation Layer" and "Auditing").
use Rattle.std.specs.Prelude.{◌≡◌, ◌≤◌, ◌+◌, ◌⊎◌, ℕ, Bool, true, false, if◌then◌else◌, List, [], ◌∷◌, ◌++◌, Option, None}
use Rattle.apiservice_table.specs.Changes.{IsLater}
use Rattle.audit_core.specs.Errand.{errand_in, attributes_in, effective_in, info_in}
use Rattle.audit_core.specs.Answer.{status_of}
use Rattle.audit_core.specs.Exchange.{IsAnswered, KeepsRequest, decision_in, facts_by}
use Rattle.audit_core.specs.Offers.{Due, offers_due, has_refused}
use Rattle.audit_core.specs.Owed.{owed}
use Rattle.audit_core.specs.Routing.{Decides}
use Rattle.audit_core.specs.declared.answered.Answered.{Answered}
use Rattle.audit_core.specs.declared.errand.Errand.{Errand}
use Rattle.audit_core.specs.declared.errand.Errand.TheVariants as errand
use Rattle.audit_core.specs.declared.link_note.LinkNote.{LinkNote}
use Rattle.audit_core.specs.declared.link_note.LinkNote.TheVariants as note
use Rattle.audit_core.specs.declared.offers.OfferNote.{OfferNote}
use Rattle.audit_core.specs.declared.routed.Handling.{Handling}
use Rattle.audit_core.specs.declared.routed.Handling.TheVariants.{Refused}
use Rattle.audit_core.specs.declared.routed.Routed.{Routed}
use Rattle.audit_core.specs.declared.settings.Settings.{Settings}
use Rattle.audit_core.specs.declared.stamp.Stamp.{Stamp}
use Rattle.event_offers.specs.Offering.{OffersAll, stage_events, started_events}
use Rattle.exchange_replies.specs.Sent.{is_head, sent_on, StopsSending}
use Rattle.exchange_replies.specs.Streams.{Came, once, streamed, link_of, reply_body, Comes, IsCutOff, Replies, WritesPart, WritesTo}
use Rattle.fact_ranges.specs.InRange.{AreInRange}
use Rattle.front_base.specs.Info.{is_long_running}
use Rattle.front_base.specs.declared.stage.Stage.TheVariants as stage
use Rattle.front_ports.specs.Cause.{Rose}
use Rattle.front_ports.specs.Told.{Grows, Adds}
use Rattle.http_edge.specs.Requests.{StartsWith}
use Rattle.http_edge.specs.declared.request.Request.{Request}
use Rattle.session_core.specs.Bays.{BayState, next_id}
use Rattle.session_core.specs.Closing.{tag_by}
use Rattle.session_core.specs.declared.exchange.Exchange.{Exchange}
use Rattle.stage_event.specs.Due.{reply_show}
use Rattle.stage_event.specs.declared.facts.Kept.TheVariants.{NotAsked}
use Rattle.stream_relay.specs.declared.stream.Relayed.{Relayed}
use Rattle.stream_relay.specs.declared.stream.Relayed.TheVariants as relayed

-- some bytes begin with the request, so it is one that this server reads
pub record WasRead (r : Request) : Type 0 where
  pub bytes : List ℕ
  pub after : List ℕ
  pub starts : StartsWith bytes r after

-- ---- how it is handled

-- a request whose arrival a strict sink could not record is refused; every other one is handled as it wants
abbrev pub errand_after : Settings → List OfferNote → Errand → Errand
errand_after set offers own = if has_refused set offers then errand.Refuse 500 else own

abbrev pub routed_of : Exchange → Routed
routed_of x = record { row = x.row; handling = x.handling }

abbrev pub answered_of : Exchange → Answered
answered_of x = record { handling = x.handling; decision = x.decision; facts = x.facts }

-- ---- its moments

abbrev pub is_long : Request → Bool
is_long r = is_long_running (info_in r)

-- when it had been read; of one that runs long, when its reply's head was known; and when its reply was complete
abbrev pub moments_by : Bool → Stamp → List ℕ
moments_by true stamp = stamp.received ∷ stamp.started ∷ stamp.complete ∷ []
moments_by false stamp = stamp.received ∷ stamp.complete ∷ []

-- the moments are those of the clock, and don't fall. One that doesn't run long has no start of its own
pub record IsTimed (long : Bool) (m n : BayState) (stamp : Stamp) : Type 0 where
  pub given : Grows m.given n.given (moments_by long stamp)
  pub received : m.last ≤ stamp.received
  pub started : stamp.received ≤ stamp.started
  pub complete : stamp.started ≤ stamp.complete
  pub last : n.last ≡ stamp.complete
  pub short : long ≡ false → stamp.started ≡ stamp.received

-- ---- what is known of it

-- the facts of one whose reply streamed and was cut: of its body nothing is kept
pub record IsAnsweredCut (set : Settings) (stamp : Stamp) (r : Request) (handling : Handling) (note : LinkNote) (x : Answered)
    : Type 0 where
  pub handling_is : x.handling ≡ handling
  pub decision_is : x.decision ≡ decision_in set r
  pub request_is : KeepsRequest (decision_in set r) (attributes_in set r) r x.facts.request
  pub reply_is : IsCutOff (reply_show (decision_in set r).level (decision_in set r).omit_managed (info_in r)) x.facts.reply
  pub facts_are : x.facts ≡ facts_by stamp r (attributes_in set r) (status_of handling note) x.facts.request x.facts.reply

-- the facts of one whose link came to that and whose reply ended so
abbrev pub AnsweredBy : Settings → Stamp → Request → Handling → Came → Relayed → Answered → Type 0
AnsweredBy set stamp r handling (once reached) end x =
    IsAnswered set stamp r handling (link_of (once reached)) (reply_body (once reached)) x
AnsweredBy set stamp r handling (streamed head frame after) relayed.Done x =
    IsAnswered set stamp r handling (link_of (streamed head frame after)) (reply_body (streamed head frame after)) x
AnsweredBy set stamp r handling (streamed head frame after) _ x =
    IsAnsweredCut set stamp r handling (link_of (streamed head frame after)) x

-- ---- all that it does

-- a request of that peer was served by a bay: it was judged, offered, handled, sent on or not, answered with that text, and
-- noted as `x`. By its end the text is that of the whole reply, which may not have been written whole, or of a reply that was cut
pub record ExchangedTo (set : Settings) (peer : List ℕ) (r : Request) (m : BayState) (text : List ℕ) (n : BayState) (end : Relayed)
    (x : Exchange) : Type 0 where
  pub request_is : x.request ≡ r
  pub read : WasRead r
  -- the rows that were seen decide, and the change that it makes stands next
  pub routed : Decides set.endpoints (errand_after set x.offers (errand_in set r x.facts.received)) m.opening m.seen m.own n.seen n.own (routed_of x)
  -- it was sent on where it is to be, its link was handed back, and what came is what all bytes of the link say
  pub came : Came
  pub sent : Comes (is_head r) (is_long r) (sent_on r (effective_in set r) (next_id m) x.handling) m.dial n.dial came
  pub link_is : x.link ≡ link_of came
  -- its facts are those of the request and its answer
  pub stamp : Stamp
  pub id_is : stamp.id ≡ next_id m
  pub peer_is : stamp.peer ≡ peer
  pub timed : IsTimed (is_long r) m n stamp
  pub answered : AnsweredBy set stamp r x.handling came end (answered_of x)
  pub in_range : AreInRange x.facts
  -- each event that it owes was offered to each sink that is on
  pub offered : OffersAll (offers_due set (owed x.decision x.facts)) m.lanes x.offers n.lanes
  -- the client's bytes, which say that the connection ends where the request asks so or the connection wished it
  pub text_is : Replies r (tag_by r (next_id m) x.wished) x.handling (Rose m.dial.link_faults n.dial.link_faults) came end text
  -- the diary and the bay's own numbers
  pub noted : Adds m.notes n.notes (x ∷ [])
  pub number_is : n.number ≡ m.number + 1
  pub boot_is : n.boot ≡ m.boot
  pub opening_is : n.opening ≡ m.opening

-- the same of one whose reply came whole
abbrev pub Exchanged : Settings → List ℕ → Request → BayState → List ℕ → BayState → Exchange → Type 0
Exchanged set peer r m text n x = ExchangedTo set peer r m text n relayed.Done x

-- ---- a request that memory stopped: what is known of it

-- the facts of one that was received: its stamp and what is kept of its body. Of its reply the cases below tell
pub record AreBegun (set : Settings) (peer : List ℕ) (r : Request) (m : BayState) (x : Exchange) : Type 0 where
  pub stamp : Stamp
  pub id_is : stamp.id ≡ next_id m
  pub peer_is : stamp.peer ≡ peer
  pub decision_is : x.decision ≡ decision_in set r
  pub request_is : KeepsRequest (decision_in set r) (attributes_in set r) r x.facts.request
  pub facts_are : x.facts ≡ facts_by stamp r (attributes_in set r) x.facts.status x.facts.request x.facts.reply

-- the moments before its end are those of the clock, and don't fall: that of its arrival, and that of its start where it was
-- reached. The arrival stands for those that were not reached
abbrev pub moments_so_far : Bool → Stamp → List ℕ
moments_so_far true stamp = stamp.received ∷ stamp.started ∷ []
moments_so_far false stamp = stamp.received ∷ []

pub record IsTimedSoFar (started : Bool) (m n : BayState) (stamp : Stamp) : Type 0 where
  pub given : Grows m.given n.given (moments_so_far started stamp)
  pub received : m.last ≤ stamp.received
  pub later : stamp.received ≤ stamp.started
  pub last : n.last ≡ stamp.started
  pub unstarted : started ≡ false → stamp.started ≡ stamp.received
  pub endless : stamp.complete ≡ stamp.received

-- the offers of its arrival, and those of its reply's start
abbrev pub arrival_due : Settings → Exchange → List Due
arrival_due set x = offers_due set (stage_events x.decision x.facts stage.RequestReceived)

abbrev pub start_due : Settings → Exchange → List Due
start_due set x = offers_due set (started_events x.decision x.facts)

-- ---- a request that memory stopped: where it was

-- how a request is noted that was not handled yet
abbrev pub unrouted : Routed
unrouted = record { row = None; handling = Refused 500 }

-- no reply came: nothing is known of one, no link was used, and no byte was written
pub record HasNoReply (m n : BayState) (w0 w : Option (List ℕ)) (stamp : Stamp) (x : Exchange) : Type 0 where
  pub status_is : x.facts.status ≡ 0
  pub reply_is : x.facts.reply ≡ NotAsked
  pub link_is : x.link ≡ note.NotUsed
  pub wished_is : x.wished ≡ false
  pub timed : IsTimedSoFar false m n stamp
  pub written : w ≡ w0

-- what it wants was not decided: it is noted as not handled, nothing was sent on, and no change was made. Of its arrival all events
-- were offered or none
pub record Undecided (set : Settings) (m n : BayState) (w0 w : Option (List ℕ)) (stamp : Stamp) (due : List Due) (x : Exchange)
    : Type 0 where
  pub routed_is : routed_of x ≡ unrouted
  pub later : IsLater m.seen n.seen
  pub own_is : n.own ≡ m.own
  pub dial_is : n.dial ≡ m.dial
  pub no_reply : HasNoReply m n w0 w stamp x
  pub due_is : (due ≡ []) ⊎ (due ≡ arrival_due set x)

-- it was handled after the events of its arrival, and memory ran out before it was sent on, or while it was
pub record SendingStopped (set : Settings) (r : Request) (m n : BayState) (w0 w : Option (List ℕ)) (stamp : Stamp) (due : List Due)
    (x : Exchange) : Type 0 where
  pub routed : Decides set.endpoints (errand_after set x.offers (errand_in set r x.facts.received)) m.opening m.seen m.own n.seen n.own (routed_of x)
  pub sent : StopsSending (sent_on r (effective_in set r) (next_id m) x.handling) m.dial n.dial
  pub no_reply : HasNoReply m n w0 w stamp x
  pub due_is : due ≡ arrival_due set x

-- its reply was not complete: nothing is kept of its body. Nothing was written, or the events of its start were offered and a prefix
-- of it was written
pub record StopsBeforeEnd (set : Settings) (r : Request) (m n : BayState) (w0 w : Option (List ℕ)) (stamp : Stamp) (due : List Due)
    (came : Came) (x : Exchange) : Type 0 where
  pub reply_is : x.facts.reply ≡ NotAsked
  pub timed : IsTimedSoFar (is_long r) m n stamp
  pub written :
      ((due ≡ arrival_due set x) × (w ≡ w0))
      ⊎ ((due ≡ arrival_due set x ++ start_due set x)
      × WritesPart r (tag_by r (next_id m) x.wished) x.handling (Rose m.dial.link_faults n.dial.link_faults) came w0 w)

-- its reply was complete and written by its end, and is known as that of any exchange. The event of its end alone was not offered
pub record StopsAtEnd (set : Settings) (r : Request) (m n : BayState) (w0 w : Option (List ℕ)) (rose : Type 0) (stamp : Stamp)
    (due : List Due) (came : Came) (x : Exchange) : Type 0 where
  pub end : Relayed
  pub text : List ℕ
  pub text_is : Replies r (tag_by r (next_id m) x.wished) x.handling (Rose m.dial.link_faults n.dial.link_faults) came end text
  pub written : WritesTo w0 w text rose end
  pub answered : AnsweredBy set stamp r x.handling came end (answered_of x)
  pub timed : IsTimed (is_long r) m n stamp
  pub due_is : due ≡ arrival_due set x ++ start_due set x

-- it was handled and sent on where it is to be, its link was handed back, and its status is that of its reply
pub record ReplyStopped (set : Settings) (r : Request) (m n : BayState) (w0 w : Option (List ℕ)) (rose : Type 0) (stamp : Stamp)
    (due : List Due) (x : Exchange) : Type 0 where
  pub routed : Decides set.endpoints (errand_after set x.offers (errand_in set r x.facts.received)) m.opening m.seen m.own n.seen n.own (routed_of x)
  pub came : Came
  pub sent : Comes (is_head r) (is_long r) (sent_on r (effective_in set r) (next_id m) x.handling) m.dial n.dial came
  pub link_is : x.link ≡ link_of came
  pub status_is : x.facts.status ≡ status_of x.handling (link_of came)
  pub where_is : StopsBeforeEnd set r m n w0 w stamp due came x ⊎ StopsAtEnd set r m n w0 w rose stamp due came x

abbrev pub StoppedAt : Settings → Request → BayState → BayState → Option (List ℕ) → Option (List ℕ) → Type 0 → Stamp → List Due → Exchange
    → Type 0
StoppedAt set r m n w0 w rose stamp due x =
    Undecided set m n w0 w stamp due x
    ⊎ (SendingStopped set r m n w0 w stamp due x ⊎ ReplyStopped set r m n w0 w rose stamp due x)

-- ---- a request that memory stopped: all of it

-- what memory stopped did a part of what a request does, and was noted as `x`: a prefix of its offers was made. `rose` says that a
-- write failed
pub record Halted (set : Settings) (peer : List ℕ) (r : Request) (m n : BayState) (w0 w : Option (List ℕ)) (rose : Type 0) (x : Exchange)
    : Type 0 where
  pub request_is : x.request ≡ r
  pub read : WasRead r
  pub begun : AreBegun set peer r m x
  pub in_range : AreInRange x.facts
  pub due : List Due
  pub rest : List Due
  pub due_is : offers_due set (owed x.decision x.facts) ≡ due ++ rest
  pub offered : OffersAll due m.lanes x.offers n.lanes
  pub stopped : StoppedAt set r m n w0 w rose begun.stamp due x
  pub noted : Adds m.notes n.notes (x ∷ [])
  pub number_is : n.number ≡ m.number + 1
  pub boot_is : n.boot ≡ m.boot
  pub opening_is : n.opening ≡ m.opening

-- what memory stopped before it was judged left no trace but the moment at which it had been read
pub record Unbegun (m n : BayState) (w0 w : Option (List ℕ)) : Type 0 where
  pub clock : ((n.given ≡ m.given) × (n.last ≡ m.last)) ⊎ (Grows m.given n.given (n.last ∷ []) × (m.last ≤ n.last))
  pub same : n ≡ record m { given = n.given; last = n.last }
  pub written : w ≡ w0
