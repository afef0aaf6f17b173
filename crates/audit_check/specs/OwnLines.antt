-- What is known of the facts of an exchange that is recorded, and of its lines.
use Rattle.std.specs.Prelude.{◌≡◌, ◌⊎◌, ℕ, List, [], None, Ok}
use Rattle.audit_core.specs.Errand.{attributes_in, info_in}
use Rattle.audit_core.specs.Exchange.{KeepsRequest, decision_in, facts_by}
use Rattle.audit_core.specs.declared.settings.Settings.{Settings}
use Rattle.audit_core.specs.declared.stamp.Stamp.{Stamp}
use Rattle.audit_check.specs.Lines.{IsLast, IsLine}
use Rattle.front_base.specs.AuditId.{AuditId}
use Rattle.http_edge.specs.declared.request.Request.{Request}
use Rattle.policy_rules.specs.declared.decision.Decision.{Decision}
use Rattle.stage_event.specs.Due.{reply_show}
use Rattle.stage_event.specs.Events.{object}
use Rattle.stage_event.specs.Kept.{IsKeptAs}
use Rattle.stage_event.specs.declared.event.Event.{Event}
use Rattle.stage_event.specs.declared.facts.Facts.{Facts}
use Rattle.stage_event.specs.declared.facts.Kept.{Kept}
use Rattle.stage_event.specs.declared.show.Show.{Show}
use Rattle.token_users.specs.File.{file_records}
use Rattle.token_users.specs.declared.record.Record.{Record}

-- there are no tokens, or they are those of a token file that is accepted
abbrev pub AreOfFile : List Record → Type 0
AreOfFile tokens = (tokens ≡ []) ⊎ ((bytes : List ℕ) × (file_records bytes ≡ Ok tokens))

-- the lines are of other requests
abbrev pub AreOfOthers : List (List ℕ) → AuditId → Type 0
AreOfOthers lines id = IsLast lines id None

-- what is kept of a reply of which that is shown is what is kept of some body; or it shows nothing, as of a reply that was cut or never
-- came
abbrev pub IsKeptOfAny : Show → Kept → Type 0
IsKeptOfAny show kept = ((body : List ℕ) × IsKeptAs show body kept) ⊎ (object kept ≡ None)

-- a request with that stamp is recorded so, whatever came of it: by what the policy decides, with these facts
pub record IsRecorded (set : Settings) (stamp : Stamp) (r : Request) (d : Decision) (facts : Facts) : Type 0 where
  pub decision_is : d ≡ decision_in set r
  pub request_is : KeepsRequest (decision_in set r) (attributes_in set r) r facts.request
  pub reply_is : IsKeptOfAny (reply_show (decision_in set r).level (decision_in set r).omit_managed (info_in r)) facts.reply
  pub facts_are : facts ≡ facts_by stamp r (attributes_in set r) facts.status facts.request facts.reply

-- the text is the line of an event of the request with that ID
pub record IsLineOf (id : AuditId) (text : List ℕ) : Type 0 where
  pub event : Event
  pub line : IsLine event text
  pub id_is : event.id ≡ id
