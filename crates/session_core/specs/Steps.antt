-- What is known of a request while it is served.
use Rattle.std.specs.Prelude.{◌≡◌, ◌≤◌, ℕ, Bool, false, List, [], ◌∷◌}
use Rattle.audit_core.specs.Answer.{status_of}
use Rattle.audit_core.specs.Errand.{errand_in, attributes_in}
use Rattle.audit_core.specs.Exchange.{KeepsRequest, decision_in, facts_by}
use Rattle.audit_core.specs.declared.link_note.LinkNote.{LinkNote}
use Rattle.audit_core.specs.declared.link_note.LinkNote.TheVariants.{NotUsed}
use Rattle.audit_core.specs.declared.offers.OfferNote.{OfferNote}
use Rattle.audit_core.specs.declared.routed.Handling.{Handling}
use Rattle.audit_core.specs.declared.routed.Routed.{Routed}
use Rattle.audit_core.specs.declared.settings.Settings.{Settings}
use Rattle.audit_core.specs.declared.stamp.Stamp.{Stamp}
use Rattle.exchange_replies.specs.declared.reply_tag.ReplyTag.{ReplyTag}
use Rattle.front_ports.specs.Told.{Grows}
use Rattle.http_edge.specs.declared.request.Request.{Request}
use Rattle.policy_rules.specs.declared.decision.Decision.{Decision}
use Rattle.session_core.specs.Bays.{BayState, next_id}
use Rattle.session_core.specs.Closing.{tag_by}
use Rattle.session_core.specs.declared.begun.Begun.{Begun}
use Rattle.session_core.specs.declared.exchange.Exchange.{Exchange}
use Rattle.session_core.specs.declared.work.Work.{Work}
use Rattle.stage_event.specs.declared.facts.Facts.{Facts}
use Rattle.stage_event.specs.declared.facts.Kept.{Kept}
use Rattle.stage_event.specs.declared.facts.Kept.TheVariants.{NotAsked}

-- ---- when it was received

-- nothing is known of the reply
abbrev pub first_facts : Settings → Stamp → Request → Kept → Facts
first_facts set stamp r kept = facts_by stamp r (attributes_in set r) 0 kept NotAsked

pub record IsBegun (set : Settings) (stamp : Stamp) (r : Request) (begun : Begun) : Type 0 where
  pub kept : Kept
  pub kept_is : KeepsRequest (decision_in set r) (attributes_in set r) r kept
  pub is : begun ≡ record {
    errand = errand_in set r stamp.received;
    decision = decision_in set r;
    facts = first_facts set stamp r kept;
  }

-- its stamp is that of a request which the bay read at that moment
abbrev pub stamp_at : List ℕ → BayState → ℕ → Stamp
stamp_at peer m received = record { id = next_id m; peer = peer; received = received; started = received; complete = received }

-- at a moment of the clock it was judged, and nothing else happened
pub record Arrived (set : Settings) (peer : List ℕ) (r : Request) (begun : Begun) (m k : BayState) : Type 0 where
  pub is_begun : IsBegun set (stamp_at peer m k.last) r begun
  pub given : Grows m.given k.given (k.last ∷ [])
  pub later : m.last ≤ k.last
  pub bay_is : k ≡ record m { last = k.last; given = k.given }

-- ---- while it is served

-- how it is recorded, what is known of it, what became of its link, its notes, and what the connection wished
pub record WorkState : Type 0 where
  pub decision : Decision
  pub facts : Facts
  pub link : LinkNote
  pub notes : List OfferNote
  pub wished : Bool

abbrev pub work_state : Work → WorkState
work_state w = record { decision = w.decision; facts = w.facts; link = w.link; notes = w.notes.items; wished = w.wished }

-- nothing was sent on, offered or wished
abbrev pub first_work : Decision → Facts → WorkState
first_work decision facts = record { decision = decision; facts = facts; link = NotUsed; notes = []; wished = false }

-- what is told of one that was handled so
abbrev pub exchange_of : Request → Routed → WorkState → Exchange
exchange_of r routed w = record {
  request = r;
  row = routed.row;
  handling = routed.handling;
  decision = w.decision;
  facts = w.facts;
  link = w.link;
  offers = w.notes;
  wished = w.wished;
}

-- ---- when its reply is known

abbrev pub with_status : ℕ → Facts → Facts
with_status status facts = record facts { status = status }

abbrev pub with_kept : Kept → Facts → Facts
with_kept reply facts = record facts { reply = reply }

abbrev pub with_start : ℕ → Facts → Facts
with_start started facts = record facts { started = started }

abbrev pub with_end : ℕ → Facts → Facts
with_end complete facts = record facts { complete = complete }

-- how the link of one that was handled so is noted, the status that its reply has then, and what the connection wished
abbrev pub linked : Handling → LinkNote → Bool → WorkState → WorkState
linked handling note wished w = record w { link = note; facts = with_status (status_of handling note) w.facts; wished = wished }

-- what the head of its reply says
abbrev pub tag_in : Request → WorkState → ReplyTag
tag_in r w = tag_by r w.facts.id w.wished

-- what is kept of its reply's body
abbrev pub with_object : Kept → WorkState → WorkState
with_object reply w = record w { facts = with_kept reply w.facts }
