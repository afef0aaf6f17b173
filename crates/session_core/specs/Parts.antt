-- What the parts of one exchange do.
use Rattle.std.specs.Prelude.{◌≡◌, ◌≤◌, ◌⊎◌, ℕ, Bool, true, false, List, [], ◌∷◌, ◌++◌, Option, Result, Ok, Err}
use Rattle.std.specs.Io.KnownBytes.{Appends}
use Rattle.apiservice_rows.specs.Row.{Row}
use Rattle.apiservice_table.specs.Changes.{IsLater}
use Rattle.apiservice_table.specs.declared.change.Change.{Change}
use Rattle.audit_core.specs.Offers.{Due, offers_due, has_refused}
use Rattle.audit_core.specs.Routing.{Decides}
use Rattle.audit_core.specs.declared.errand.Errand.{Errand}
use Rattle.audit_core.specs.declared.offers.OfferNote.{OfferNote}
use Rattle.audit_core.specs.declared.routed.Handling.{Handling}
use Rattle.audit_core.specs.declared.routed.Routed.{Routed}
use Rattle.audit_core.specs.declared.settings.Settings.{Settings}
use Rattle.event_offers.specs.Lanes.{LanesState}
use Rattle.event_offers.specs.Offering.{Noted, stage_events, started_events}
use Rattle.exchange_replies.specs.Sent as sent
use Rattle.exchange_replies.specs.Sent.{DialState, is_head, sent_on, StopsSending}
use Rattle.exchange_replies.specs.Streams.{Came, Comes, ComesTo, IsKeptBy, RepliedTo, Replies, WritesPart, WritesTo, link_of, note_of_sent}
use Rattle.exchange_replies.specs.declared.sent_on.SentOn.{SentOn}
use Rattle.forward_link.specs.Exchange.{LinkState}
use Rattle.front_base.specs.Info.{is_long_running}
use Rattle.front_base.specs.declared.memory.NoMemory.{NoMemory}
use Rattle.front_base.specs.declared.stage.Stage.{Stage}
use Rattle.front_base.specs.declared.stage.Stage.TheVariants as stage
use Rattle.front_ports.specs.Cause.{Rose}
use Rattle.front_ports.specs.Told.{Grows}
use Rattle.front_ports.specs.Wishes.{GivesWish}
use Rattle.front_ports.specs.Written.{AppendsFront}
use Rattle.http_edge.specs.declared.request.Request.{Request}
use Rattle.policy_rules.specs.declared.decision.Decision.{Decision}
use Rattle.session_core.specs.Bays.{BayState, Recording}
use Rattle.session_core.specs.Closing.{MayWish, closes, tag_by}
use Rattle.session_core.specs.Exchange.{errand_after, Exchanged, ExchangedTo, Halted, Unbegun}
use Rattle.session_core.specs.Steps.{WorkState, linked, tag_in, with_end, with_kept, with_start}
use Rattle.session_core.specs.declared.exchange.Exchange.{Exchange}
use Rattle.session_core.specs.declared.session.Outcome.{Outcome}
use Rattle.session_core.specs.declared.session.Outcome.TheVariants as outcome
use Rattle.stage_event.specs.Due.{reply_show}
use Rattle.stage_event.specs.Views.{effective_user}
use Rattle.stage_event.specs.declared.facts.Facts.{Facts}
use Rattle.stage_event.specs.declared.facts.Kept.{Kept}
use Rattle.stage_event.specs.declared.show.Show.{Show}
use Rattle.stream_relay.specs.declared.stream.Relayed.{Relayed}
use Rattle.stream_relay.specs.declared.stream.Relayed.TheVariants as relayed

-- ---- the events of a stage

abbrev pub stage_due : Settings → WorkState → Stage → List Due
stage_due set w own = offers_due set (stage_events w.decision w.facts own)

-- they were offered, and nothing else is known of the request
pub record StageOffered (set : Settings) (own : Stage) (m : LanesState) (w : WorkState) (n : LanesState) (v : WorkState) : Type 0 where
  pub noted : Noted (stage_due set w own) m w.notes n v.notes
  pub work_is : v ≡ record w { notes = v.notes }

-- ---- how it is handled

-- the events of its arrival were offered, and then the rows that were seen decided
pub record Handled (set : Settings) (own : Errand) (opening : List Row) (seen : List Change) (mine : List (ℕ × Change)) (m : LanesState)
    (w : WorkState) (new_seen : List Change) (new_mine : List (ℕ × Change)) (n : LanesState) (v : WorkState) (routed : Routed) : Type 0 where
  pub offered : StageOffered set stage.RequestReceived m w n v
  pub decides : Decides set.endpoints (errand_after set v.notes own) opening seen mine new_seen new_mine routed

-- memory ran out: nothing was offered, or all events of its arrival were; no change was made
pub record HandleHalts (set : Settings) (seen : List Change) (mine : List (ℕ × Change)) (m : LanesState) (w : WorkState)
    (new_seen : List Change) (new_mine : List (ℕ × Change)) (n : LanesState) (v : WorkState) : Type 0 where
  pub offered : ((n ≡ m) × (v ≡ w)) ⊎ StageOffered set stage.RequestReceived m w n v
  pub later : IsLater seen new_seen
  pub own_is : new_mine ≡ mine

-- ---- the events of the reply

-- what its reply's start is due, and what its end
abbrev pub start_due : Settings → Decision → Facts → List Due
start_due set d facts = offers_due set (started_events d facts)

abbrev pub end_due : Settings → Decision → Facts → List Due
end_due set d facts = offers_due set (stage_events d facts stage.ResponseComplete)

-- at a moment of the clock the events of a stage were offered, by these facts
pub record StageReached (set : Settings) (own : Stage) (facts : Facts) (m : Recording) (w : WorkState) (n : Recording) (v : WorkState)
    : Type 0 where
  pub offered : StageOffered set own m.lanes (record w { facts = facts }) n.lanes v
  pub given : Grows m.given n.given (n.last ∷ [])
  pub later : m.last ≤ n.last

-- memory ran out: at a moment of the clock nothing was offered
pub record StageHalts (facts : Facts) (m : Recording) (w : WorkState) (n : Recording) (v : WorkState) : Type 0 where
  pub lanes_are : n.lanes ≡ m.lanes
  pub work_is : v ≡ record w { facts = facts }
  pub given : Grows m.given n.given (n.last ∷ [])
  pub later : m.last ≤ n.last

-- the events of its start were offered, at a moment of the clock, if it runs long
abbrev pub StartedBy : Bool → Settings → Recording → WorkState → Recording → WorkState → Type 0
StartedBy false set m w n v = (n ≡ m) × (v ≡ w)
StartedBy true set m w n v = StageReached set stage.ResponseStarted (with_start n.last w.facts) m w n v

abbrev pub Started : Settings → Recording → WorkState → Recording → WorkState → Type 0
Started set m w n v = StartedBy (is_long_running w.facts.info) set m w n v

abbrev pub StartHalts : Recording → WorkState → Recording → WorkState → Type 0
StartHalts m w n v = (is_long_running w.facts.info ≡ true) × StageHalts (with_start n.last w.facts) m w n v

-- what its reply's start is due was offered, and nothing since: these offers left the lanes as they are
pub record StartIsOffered (set : Settings) (lanes : LanesState) (w : WorkState) : Type 0 where
  pub before : LanesState
  pub old : List OfferNote
  pub noted : Noted (start_due set w.decision w.facts) before old lanes w.notes

abbrev pub Completed : Settings → Recording → WorkState → Recording → WorkState → Type 0
Completed set m w n v = StageReached set stage.ResponseComplete (with_end n.last w.facts) m w n v

abbrev pub CompleteHalts : Recording → WorkState → Recording → WorkState → Type 0
CompleteHalts m w n v = StageHalts (with_end n.last w.facts) m w n v

-- ---- its moments

-- the moments after the first
abbrev pub later_moments : Bool → ℕ → ℕ → List ℕ
later_moments true started complete = started ∷ complete ∷ []
later_moments false started complete = complete ∷ []

-- they are those of the clock, and don't fall. One that doesn't run long has no start of its own
pub record IsTimedBy (long : Bool) (m n : Recording) (before start end : ℕ) : Type 0 where
  pub given : Grows m.given n.given (later_moments long start end)
  pub started : long ≡ true → m.last ≤ start
  pub short : long ≡ false → start ≡ before
  pub complete : end ≡ n.last
  pub later : m.last ≤ n.last
  pub between : long ≡ true → start ≤ n.last

-- the same before its end
abbrev pub IsStartedBy : Bool → Recording → Recording → ℕ → ℕ → Type 0
IsStartedBy false m n before start = (n.given ≡ m.given) × (n.last ≡ m.last) × (start ≡ before)
IsStartedBy true m n before start = Grows m.given n.given (start ∷ []) × (n.last ≡ start) × (m.last ≤ start)

-- ---- the reply, between the events of its start and of its end

-- the facts once the reply is complete
abbrev pub known_facts : Kept → ℕ → ℕ → Facts → Facts
known_facts reply started complete facts = with_end complete (with_kept reply (with_start started facts))

-- what events show of the reply's body
abbrev pub object_show : WorkState → Show
object_show w = reply_show w.decision.level w.decision.omit_managed w.facts.info

-- the reply was written by that end, and this was kept
pub record Replied {K : Type 0} (state : K → LinkState) (set : Settings) (r : Request) (handling : Handling) (sent : SentOn K) (k l : DialState)
    (m : Recording) (w : WorkState) (n : Recording) (v : WorkState) (w0 w1 : Option (List ℕ)) (rose : Type 0) (end : Relayed) : Type 0 where
  pub kept : Kept
  pub to : RepliedTo state r (tag_in r w) handling (object_show w) sent k l w0 w1 rose (record { end = end; kept = kept })
  pub started : ℕ
  pub complete : ℕ
  pub noted : Noted (start_due set w.decision (known_facts kept started complete w.facts)
      ++ end_due set w.decision (known_facts kept started complete w.facts)) m.lanes w.notes n.lanes v.notes
  pub refuses : has_refused set v.notes ≡ has_refused set w.notes
  pub timed : IsTimedBy (is_long_running w.facts.info) m n w.facts.started started complete
  pub work_is : v ≡ record w { facts = known_facts kept started complete w.facts; notes = v.notes }

-- memory ran out before the reply was complete: nothing was written, or the events of its start were offered and a prefix of it was
-- written. `faulty` says that a link failed, and `rose` that a write did
pub record HaltsBeforeEnd (set : Settings) (r : Request) (handling : Handling) (came : Came) (faulty : Type 0) (m : Recording) (w : WorkState)
    (n : Recording) (v : WorkState) (w0 w1 : Option (List ℕ)) : Type 0 where
  pub started : ℕ
  pub due : List Due
  pub noted : Noted due m.lanes w.notes n.lanes v.notes
  pub written :
      ((due ≡ []) × (w1 ≡ w0))
      ⊎ ((due ≡ start_due set w.decision (with_start started w.facts))
      × WritesPart r (tag_in r w) handling faulty came w0 w1)
  pub timed : IsStartedBy (is_long_running w.facts.info) m n w.facts.started started
  pub work_is : v ≡ record w { facts = with_start started w.facts; notes = v.notes }

-- it ran out once the reply was complete: the event of its end was not offered
pub record HaltsAtEnd (set : Settings) (r : Request) (handling : Handling) (came : Came) (faulty : Type 0) (m : Recording) (w : WorkState)
    (n : Recording) (v : WorkState) (w0 w1 : Option (List ℕ)) (rose : Type 0) : Type 0 where
  pub end : Relayed
  pub text : List ℕ
  pub replies : Replies r (tag_in r w) handling faulty came end text
  pub writes : WritesTo w0 w1 text rose end
  pub kept : Kept
  pub kept_is : IsKeptBy r handling (object_show w) came end kept
  pub started : ℕ
  pub complete : ℕ
  pub noted : Noted (start_due set w.decision (known_facts kept started complete w.facts)) m.lanes w.notes n.lanes v.notes
  pub timed : IsTimedBy (is_long_running w.facts.info) m n w.facts.started started complete
  pub work_is : v ≡ record w { facts = known_facts kept started complete w.facts; notes = v.notes }

abbrev pub ReplyHaltsAt : Settings → Request → Handling → Came → Type 0 → Recording → WorkState → Recording → WorkState
    → Option (List ℕ) → Option (List ℕ) → Type 0 → Type 0
ReplyHaltsAt set r handling came faulty m w n v w0 w1 rose =
    (has_refused set v.notes ≡ has_refused set w.notes)
    × (HaltsBeforeEnd set r handling came faulty m w n v w0 w1 ⊎ HaltsAtEnd set r handling came faulty m w n v w0 w1 rose)

-- memory ran out, and the link was handed back
pub record ReplyHalts {K : Type 0} (state : K → LinkState) (set : Settings) (r : Request) (handling : Handling) (sent : SentOn K) (k l : DialState)
    (m : Recording) (w : WorkState) (n : Recording) (v : WorkState) (w0 w1 : Option (List ℕ)) (rose : Type 0) : Type 0 where
  pub came : Came
  pub comes : ComesTo state (is_head r) sent k l came
  pub link_is : link_of came ≡ note_of_sent sent
  pub halts : ReplyHaltsAt set r handling came (Rose k.link_faults l.link_faults) m w n v w0 w1 rose

-- ---- the link and the reply

-- what is to be sent on
abbrev pub sending : Request → Handling → WorkState → Option sent.Sent
sending r handling w = sent_on r (effective_user w.facts) w.facts.id handling

-- it was sent on where it is to be, that was wished, and the reply was written by that end
pub record AnsweredTo (set : Settings) (r : Request) (handling : Handling) (k l : DialState) (m : Recording) (w : WorkState) (n : Recording)
    (v : WorkState) (w0 w1 : Option (List ℕ)) (rose : Type 0) (end : Relayed) : Type 0 where
  pub came : Came
  pub comes : Comes (is_head r) (is_long_running w.facts.info) (sending r handling w) k l came
  pub text : List ℕ
  pub wished : Bool
  pub replies : Replies r (tag_by r w.facts.id wished) handling (Rose k.link_faults l.link_faults) came end text
  pub writes : WritesTo w0 w1 text rose end
  pub kept : Kept
  pub kept_is : IsKeptBy r handling (object_show w) came end kept
  pub started : ℕ
  pub complete : ℕ
  pub noted : Noted (start_due set w.decision (known_facts kept started complete (linked handling (link_of came) wished w).facts)
      ++ end_due set w.decision (known_facts kept started complete (linked handling (link_of came) wished w).facts)) m.lanes w.notes n.lanes v.notes
  pub refuses : has_refused set v.notes ≡ has_refused set w.notes
  pub timed : IsTimedBy (is_long_running w.facts.info) m n w.facts.started started complete
  pub work_is : v ≡ record (linked handling (link_of came) wished w) {
    facts = known_facts kept started complete (linked handling (link_of came) wished w).facts;
    notes = v.notes;
  }

-- memory ran out while it was sent on
pub record SendHalts (r : Request) (handling : Handling) (k l : DialState) (m : Recording) (w : WorkState) (n : Recording) (v : WorkState)
    (w0 w1 : Option (List ℕ)) : Type 0 where
  pub sent_is : StopsSending (sending r handling w) k l
  pub same : n ≡ m
  pub work_is : v ≡ w
  pub written : w1 ≡ w0

-- it ran out after that, and the link was handed back
pub record AnswerHaltsAt (set : Settings) (r : Request) (handling : Handling) (k l : DialState) (m : Recording) (w : WorkState) (n : Recording)
    (v : WorkState) (w0 w1 : Option (List ℕ)) (rose : Type 0) : Type 0 where
  pub came : Came
  pub comes : Comes (is_head r) (is_long_running w.facts.info) (sending r handling w) k l came
  pub wished : Bool
  pub halts : ReplyHaltsAt set r handling came (Rose k.link_faults l.link_faults) m (linked handling (link_of came) wished w) n v w0 w1 rose

abbrev pub AnswerHalts : Settings → Request → Handling → DialState → DialState → Recording → WorkState → Recording → WorkState
    → Option (List ℕ) → Option (List ℕ) → Type 0 → Type 0
AnswerHalts set r handling k l m w n v w0 w1 rose =
    SendHalts r handling k l m w n v w0 w1 ⊎ AnswerHaltsAt set r handling k l m w n v w0 w1 rose

-- ---- how it ends

-- one that is served whole is the last of its connection, or it goes on
abbrev pub outcome_of : Result Relayed NoMemory → Bool → Outcome
outcome_of (Ok relayed.Done) true = outcome.Last
outcome_of (Ok relayed.Done) false = outcome.Whole
outcome_of (Ok relayed.WriteFault) closing = outcome.Cut
outcome_of (Ok relayed.BackendCut) closing = outcome.BackendCut
outcome_of (Ok relayed.StreamSpent) closing = outcome.StreamSpent
outcome_of (Err fault) closing = outcome.NoMemory

-- `v0` and `v1` are what the connection will wish, before and after
abbrev pub Outcomes : Settings → List ℕ → Request → BayState → BayState → Option (List ℕ) → Option (List ℕ) → Type 0
    → Option (List Bool) → Option (List Bool) → Outcome → Type 0
Outcomes set peer r m n w0 w1 rose v0 v1 outcome.Whole =
    (text : List ℕ) × (x : Exchange) × Exchanged set peer r m text n x × Appends w0 w1 text × GivesWish v0 v1 x.wished
    × (closes r x.wished ≡ false)
Outcomes set peer r m n w0 w1 rose v0 v1 outcome.Last =
    (text : List ℕ) × (x : Exchange) × Exchanged set peer r m text n x × Appends w0 w1 text × GivesWish v0 v1 x.wished
    × (closes r x.wished ≡ true)
Outcomes set peer r m n w0 w1 rose v0 v1 outcome.Cut =
    (text : List ℕ) × (x : Exchange) × ExchangedTo set peer r m text n relayed.WriteFault x × AppendsFront w0 w1 text × rose
    × GivesWish v0 v1 x.wished
Outcomes set peer r m n w0 w1 rose v0 v1 outcome.BackendCut =
    (text : List ℕ) × (x : Exchange) × ExchangedTo set peer r m text n relayed.BackendCut x × Appends w0 w1 text
    × GivesWish v0 v1 x.wished
Outcomes set peer r m n w0 w1 rose v0 v1 outcome.StreamSpent =
    (text : List ℕ) × (x : Exchange) × ExchangedTo set peer r m text n relayed.StreamSpent x × Appends w0 w1 text
    × GivesWish v0 v1 x.wished
Outcomes set peer r m n w0 w1 rose v0 v1 outcome.NoMemory =
    (Unbegun m n w0 w1 × (v1 ≡ v0))
    ⊎ ((x : Exchange) × Halted set peer r m n w0 w1 rose x × MayWish v0 v1 false x.wished)
