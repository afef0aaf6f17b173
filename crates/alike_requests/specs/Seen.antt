-- All that a door's connections noted, by request (Kubernetes, "Auditing").
use Rattle.std.specs.Prelude.{◌≡◌, ◌⊎◌, ℕ, Bool, true, false, ⊤, List, [], ◌∷◌, ◌++◌, map, Option, Some, None}
use mathlib.Core.Logic.{inl, inr}
use Rattle.apiservice_rows.specs.Row.{Row}
use Rattle.apiservice_table.specs.Changes.{after}
use Rattle.audit_core.specs.Answer.{body_of, status_of}
use Rattle.audit_core.specs.Errand.{attributes_in, errand_in, info_in}
use Rattle.audit_core.specs.Exchange.{KeepsReply, KeepsRequest, decision_in, facts_by}
use Rattle.audit_core.specs.Offers.{Due, offers_due}
use Rattle.audit_core.specs.Owed.{owed}
use Rattle.audit_core.specs.Routing.{routed_by}
use Rattle.audit_core.specs.declared.link_note.LinkNote.{LinkNote}
use Rattle.audit_core.specs.declared.offers.OfferNote.{OfferNote}
use Rattle.audit_core.specs.declared.offers.Outcome.{Outcome}
use Rattle.audit_core.specs.declared.offers.Outcome.TheVariants as outcome
use Rattle.audit_core.specs.declared.routed.Handling.{Handling}
use Rattle.audit_core.specs.declared.settings.Settings.{Settings}
use Rattle.audit_core.specs.declared.stamp.Stamp.{Stamp}
use Rattle.bay_runs.specs.Runs.{ConnTells, ServedConn, Ran as RanDoor}
use Rattle.event_offers.specs.Offering.{note_of}
use Rattle.exchange_replies.specs.Streams.{Came, IsCutOff, once, reply_body, streamed}
use Rattle.front_ports.specs.Cause.{Rose}
use Rattle.http_edge.specs.declared.request.Request.{Request}
use Rattle.session_core.specs.Bays.{BayState}
use Rattle.session_core.specs.Connection.{ConnState, HaltsAt, Ran, ServedBroken, Serves}
use Rattle.session_core.specs.Exchange.{ExchangedTo, Halted, StoppedAt, StopsAtEnd, StopsBeforeEnd, errand_after}
use Rattle.session_core.specs.declared.conn_end.ConnEnd.{ConnEnd}
use Rattle.session_core.specs.declared.conn_end.ConnEnd.TheVariants as conn_end
use Rattle.session_core.specs.declared.exchange.Exchange.{Exchange}
use Rattle.stage_event.specs.Due.{reply_show}
use Rattle.stage_event.specs.declared.facts.Kept.{Kept}
use Rattle.stage_event.specs.declared.facts.Kept.TheVariants.{NotAsked}
use Rattle.stream_relay.specs.declared.stream.Relayed.{Relayed}
use Rattle.stream_relay.specs.declared.stream.Relayed.TheVariants as relayed
use Rattle.truncate_backend.specs.declared.fitted.Fit.{Fit}
use Rattle.truncate_backend.specs.declared.fitted.Fit.TheVariants as fit

-- how a reply ended: with the body that its link gave, cut off, or before anything was kept of it, since memory ran out
pub data Replied : Type 0 where
  whole : (body : List ℕ) → Replied
  cut : Replied
  unfinished : Replied

-- only a reply that streams is cut off
abbrev pub replied_by : Came → Relayed → Replied
replied_by (once reached) end = whole (reply_body (once reached))
replied_by (streamed head frame after) relayed.Done = whole (reply_body (streamed head frame after))
replied_by (streamed head frame after) relayed.WriteFault = cut
replied_by (streamed head frame after) relayed.BackendCut = cut
replied_by (streamed head frame after) relayed.StreamSpent = cut

-- by what a request was answered: the rows that were there, what its link came to, and how its reply ended
pub record Settled : Type 0 where
  pub rows : List Row
  pub link : LinkNote
  pub replied : Replied

-- a request, its stamp, what was noted of it, and by what it was answered: none where memory stopped it before that
pub record Seen : Type 0 where
  pub request : Request
  pub stamp : Stamp
  pub exchange : Exchange
  pub settled : Option Settled

abbrev pub noted_by : List Seen → List Exchange
noted_by all = map (λ (s : Seen). s.exchange) all

-- ---- how it was answered

-- how it was handled by those rows
abbrev pub handled_by : Settings → Seen → List Row → Handling
handled_by set s rows =
    (routed_by set.endpoints rows (errand_after set s.exchange.offers (errand_in set s.request s.exchange.facts.received))).handling

-- what is kept of a reply that ended so
abbrev pub IsReplied : Settings → Request → Handling → LinkNote → Replied → Kept → Type 0
IsReplied set r handling link (whole body) kept = KeepsReply (decision_in set r) (attributes_in set r) r (body_of handling link body) kept
IsReplied set r handling link cut kept = IsCutOff (reply_show (decision_in set r).level (decision_in set r).omit_managed (info_in r)) kept
IsReplied set r handling link unfinished kept = kept ≡ NotAsked

-- its status is that of its handling by those rows, and so is what is kept of its reply
pub record IsSettledBy (set : Settings) (s : Seen) (by : Settled) : Type 0 where
  pub status_is : s.exchange.facts.status ≡ status_of (handled_by set s by.rows) by.link
  pub reply_is : IsReplied set s.request (handled_by set s by.rows) by.link by.replied s.exchange.facts.reply

-- it has none where it was not answered
abbrev pub IsSettled : Settings → Seen → Option Settled → Type 0
IsSettled set s None = (s.exchange.facts.status ≡ 0) × (s.exchange.facts.reply ≡ NotAsked)
IsSettled set s (Some by) = IsSettledBy set s by

-- ---- what became of its events

abbrev pub is_too_large : Outcome → Bool
is_too_large outcome.Taken = false
is_too_large outcome.Full = false
is_too_large outcome.Failed = false
is_too_large (outcome.TooLarge size) = true

-- an event is too large exactly where nothing of it fits, and its size is that of the line without objects
abbrev pub Becomes : Fit → Outcome → Type 0
Becomes (fit.Whole line) own = is_too_large own ≡ false
Becomes (fit.Stripped line) own = is_too_large own ≡ false
Becomes (fit.TooLarge size) own = own ≡ outcome.TooLarge size

pub record IsNoteOf (due : Due) (note : OfferNote) : Type 0 where
  pub note_is : note ≡ note_of due note.outcome
  pub outcome_is : Becomes due.fit note.outcome

-- these became of the first of those, in order
abbrev pub AreNotesOfFirst : List OfferNote → List Due → Type 0
AreNotesOfFirst [] dues = ⊤
AreNotesOfFirst (note ∷ notes) [] = ⊥
AreNotesOfFirst (note ∷ notes) (due ∷ dues) = IsNoteOf due note × AreNotesOfFirst notes dues

-- ---- all of it

-- what was noted is how that request is recorded, its facts, what is kept of its body, and what became of its events, as far as
-- these were offered
pub record IsNoted (set : Settings) (s : Seen) : Type 0 where
  pub asked : s.exchange.request ≡ s.request
  pub decision_is : s.exchange.decision ≡ decision_in set s.request
  pub request_is : KeepsRequest (decision_in set s.request) (attributes_in set s.request) s.request s.exchange.facts.request
  pub facts_are : s.exchange.facts
      ≡ facts_by s.stamp s.request (attributes_in set s.request) s.exchange.facts.status s.exchange.facts.request s.exchange.facts.reply
  pub settled : IsSettled set s s.settled
  pub offers_are : AreNotesOfFirst s.exchange.offers (offers_due set (owed s.exchange.decision s.exchange.facts))

abbrev pub AreNoted : Settings → List Seen → Type 0
AreNoted set [] = Unit {0}
AreNoted set (s ∷ all) = IsNoted set s × AreNoted set all

-- ---- of whom

abbrev pub seen_of : (set : Settings) (peer : List ℕ) (r : Request) (m : BayState) (text : List ℕ) (n : BayState) (end : Relayed) (x : Exchange)
    → ExchangedTo set peer r m text n end x → Seen
seen_of set peer r m text n end x h = record {
  request = r;
  stamp = h.stamp;
  exchange = x;
  settled = Some (record { rows = after m.opening h.routed.decided; link = x.link; replied = replied_by h.came end });
}

abbrev pub ran_seen : (set : Settings) (peer : List ℕ) (m : BayState) (rs : List Request) (out : List ℕ) (n : BayState) (xs : List Exchange)
    → Ran set peer m rs out n xs → List Seen
ran_seen set peer m [] out n xs h = []
ran_seen set peer m (r ∷ rs) out n xs h =
    seen_of set peer r m h.0 h.2 relayed.Done h.3 h.5 ∷ ran_seen set peer h.2 rs h.1 n h.4 h.8

-- of one that memory stopped while or after it was answered
abbrev pub replied_so_far : (set : Settings) (r : Request) (m n : BayState) (w0 w : Option (List ℕ)) (rose : Type 0) (stamp : Stamp) (due : List Due)
    (came : Came) (x : Exchange)
    → StopsBeforeEnd set r m n w0 w stamp due came x ⊎ StopsAtEnd set r m n w0 w rose stamp due came x → Replied
replied_so_far set r m n w0 w rose stamp due came x (inl at) = unfinished
replied_so_far set r m n w0 w rose stamp due came x (inr at) = replied_by came at.end

-- of one that memory stopped, by where it was
abbrev pub settled_of : (set : Settings) (r : Request) (m n : BayState) (w0 w : Option (List ℕ)) (rose : Type 0) (stamp : Stamp) (due : List Due)
    (x : Exchange) → StoppedAt set r m n w0 w rose stamp due x → Option Settled
settled_of set r m n w0 w rose stamp due x (inl h) = None
settled_of set r m n w0 w rose stamp due x (inr (inl h)) = None
settled_of set r m n w0 w rose stamp due x (inr (inr h)) =
    Some (record {
      rows = after m.opening h.routed.decided;
      link = x.link;
      replied = replied_so_far set r m n w0 w rose stamp due h.came x h.where_is;
    })

abbrev pub halted_of : (set : Settings) (peer : List ℕ) (r : Request) (m n : BayState) (w0 w : Option (List ℕ)) (rose : Type 0) (x : Exchange)
    → Halted set peer r m n w0 w rose x → Seen
halted_of set peer r m n w0 w rose x h = record {
  request = r;
  stamp = h.begun.stamp;
  exchange = x;
  settled = settled_of set r m n w0 w rose h.begun.stamp h.due x h.stopped;
}

abbrev pub halts_seen : (set : Settings) (peer : List ℕ) (left : Option (List ℕ)) (rs : List Request) (m n : BayState) (w0 w : Option (List ℕ))
    (rose : Type 0) (xs : List Exchange) → HaltsAt set peer left rs m n w0 w rose xs → List Seen
halts_seen set peer left rs m n w0 w rose xs (inl h) = []
halts_seen set peer left rs m n w0 w rose xs (inr h) = halted_of set peer h.0 m n w0 w rose h.1 h.4 ∷ []

-- of one whose last reply broke off
abbrev pub broken_seen : (set : Settings) (peer : List ℕ) (m n : BayState) (c d : ConnState) (end : Relayed) (xs : List Exchange)
    → ServedBroken set peer m n c d end xs → List Seen
broken_seen set peer m n c d end xs h =
    ran_seen set peer m h.requests h.out h.middle h.before h.ran ++ seen_of set peer h.last h.middle h.text n end h.x h.broken ∷ []

-- of a connection, by its end
abbrev pub serves_seen : (set : Settings) (peer : List ℕ) (m n : BayState) (c d : ConnState) (end : ConnEnd) (xs : List Exchange)
    → Serves set peer m n c d end xs → List Seen
serves_seen set peer m n c d (conn_end.Stopped end) xs h = ran_seen set peer m h.requests h.out n xs h.ran
serves_seen set peer m n c d conn_end.ReadFault xs h = ran_seen set peer m h.0.requests h.0.out n xs h.0.ran
serves_seen set peer m n c d conn_end.WriteFault xs h =
    ran_seen set peer m h.0.requests h.0.out h.0.middle h.0.before h.0.ran
    ++ seen_of set peer h.0.last h.0.middle h.0.text n relayed.WriteFault h.0.x h.0.cut ∷ []
serves_seen set peer m n c d conn_end.BackendCut xs h = broken_seen set peer m n c d relayed.BackendCut xs h
serves_seen set peer m n c d conn_end.StreamSpent xs h = broken_seen set peer m n c d relayed.StreamSpent xs h
serves_seen set peer m n c d conn_end.NumbersSpent xs h = ran_seen set peer m h.requests h.out n xs h.ran
serves_seen set peer m n c d conn_end.NoMemory xs h =
    ran_seen set peer m h.requests h.out h.middle h.before h.ran
    ++ halts_seen set peer c.left h.requests h.middle n h.so_far d.written (Rose c.write_faults d.write_faults) h.last h.halts

-- of the connections of a door
abbrev pub door_seen : {C : Type 0} (tells : C → ConnTells) (set : Settings) (m : BayState) (all : List (ServedConn C)) (n : BayState)
    → RanDoor tells set m all n → List Seen
door_seen tells set m [] n r = []
door_seen tells set m (s ∷ more) n r =
    serves_seen set (tells s.conn).peer m r.0 (tells s.conn).state (tells s.back).state s.end s.exchanges r.1 ++ door_seen tells set r.0 more n r.2
