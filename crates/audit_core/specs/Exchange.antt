-- What is known of a request that was answered (Kubernetes, "Auditing").
use Rattle.std.specs.Prelude.{◌≡◌, ℕ, if◌then◌else◌, List, [], Option, Some, None, codes, bytes_eq}
use Rattle.std.specs.Str.Lossy.{utf8_lossy}
use Rattle.apiservice_table.specs.declared.change.Change.{Change}
use Rattle.apiservice_rows.specs.Row.{Row}
use Rattle.http_edge.specs.declared.request.Request.{Request}
use Rattle.http_head.specs.Name.{first_value}
use Rattle.http_head.specs.declared.header.Header.{Header}
use Rattle.policy_rules.specs.Policy.{first}
use Rattle.policy_rules.specs.declared.decision.Decision.{Decision}
use Rattle.stage_event.specs.Due.{request_show, reply_show}
use Rattle.stage_event.specs.Kept.{IsKeptAs}
use Rattle.stage_event.specs.declared.facts.Facts.{Facts}
use Rattle.stage_event.specs.declared.facts.Kept.{Kept}
use Rattle.stage_event.specs.declared.facts.Kept.TheVariants.{NotAsked}
use Rattle.audit_core.specs.Answer.{status_of, body_of}
use Rattle.audit_core.specs.Errand.{user_in, info_in, attributes_in, is_bad, errand_in}
use Rattle.audit_core.specs.Routing.{Decides}
use Rattle.audit_core.specs.declared.answered.Answered.{Answered}
use Rattle.audit_core.specs.declared.attributes.Attributes.{Attributes}
use Rattle.audit_core.specs.declared.judged.Asked.{Asked}
use Rattle.audit_core.specs.declared.judged.Judged.{Judged}
use Rattle.audit_core.specs.declared.link_note.LinkNote.{LinkNote}
use Rattle.audit_core.specs.declared.routed.Handling.{Handling}
use Rattle.audit_core.specs.declared.routed.Routed.{Routed}
use Rattle.audit_core.specs.declared.settings.Settings.{Settings}
use Rattle.audit_core.specs.declared.stamp.Stamp.{Stamp}

-- how the request is recorded
unfoldable pub decision_in : Settings → Request → Decision
decision_in set r = first set.policy (user_in set r) (info_in r)

-- the User-Agent header that stands first, with U+FFFD for what isn't UTF-8, or nothing
abbrev pub agent_by : Option (List ℕ) → List ℕ
agent_by None = []
agent_by (Some value) = utf8_lossy value

abbrev pub agent_in : List Header → List ℕ
agent_in headers = agent_by (first_value (codes "user-agent") headers)

-- the body that a client is sent: HEAD requests get none
abbrev pub sent_body : List ℕ → List ℕ → List ℕ
sent_body method body = if bytes_eq method (codes "HEAD") then [] else body

-- the facts of a request with that stamp and these attributes, which was answered with that status, and of whose bodies
-- this is kept
abbrev pub facts_by : Stamp → Request → Attributes → ℕ → Kept → Kept → Facts
facts_by stamp r attributes status request reply = record {
  id = stamp.id;
  target = r.head.target;
  info = attributes.info;
  user = attributes.user;
  acting = attributes.acting;
  peer = stamp.peer;
  agent = agent_in r.head.headers;
  status = status;
  request = request;
  reply = reply;
  received = stamp.received;
  started = stamp.started;
  complete = stamp.complete;
}

-- what is kept of a request's body that is recorded so
abbrev pub KeepsRequest : Decision → Attributes → Request → Kept → Type 0
KeepsRequest d attributes r kept = IsKeptAs (request_show d.level d.omit_managed attributes.info) r.body kept

-- and of the reply's, where that is its body
abbrev pub KeepsReply : Decision → Attributes → Request → List ℕ → Kept → Type 0
KeepsReply d attributes r body kept =
    IsKeptAs (reply_show d.level d.omit_managed attributes.info) (sent_body r.head.method body) kept

-- these are the facts of a request when it was received: nothing is known of the reply
abbrev pub AreFirstFacts : Stamp → Request → Attributes → Decision → Facts → Type 0
AreFirstFacts stamp r attributes d facts =
    (kept : Kept) × KeepsRequest d attributes r kept × (facts ≡ facts_by stamp r attributes 0 kept NotAsked)

-- these are the facts of a request that was answered with that status and that body. Bodies are looked at where the
-- decision shows them
pub record AreFacts (stamp : Stamp) (r : Request) (attributes : Attributes) (d : Decision) (status : ℕ) (body : List ℕ)
    (facts : Facts) : Type 0 where
  pub request_is : KeepsRequest d attributes r facts.request
  pub reply_is : KeepsReply d attributes r body facts.reply
  pub facts_are : facts ≡ facts_by stamp r attributes status facts.request facts.reply

-- this is known of a request with that stamp that was handled so, and whose link came to that, with that body
pub record IsAnswered (set : Settings) (stamp : Stamp) (r : Request) (handling : Handling) (note : LinkNote) (body : List ℕ)
    (x : Answered) : Type 0 where
  pub handling_is : x.handling ≡ handling
  pub decision_is : x.decision ≡ decision_in set r
  pub facts_are : AreFacts stamp r (attributes_in set r) (decision_in set r) (status_of handling note)
      (body_of handling note body) x.facts

-- a request was handled as it wants, over routes that others may change too, its link came to that, with that body, and
-- this is known of it
abbrev pub Settles : Settings → Stamp → Request → LinkNote → List ℕ → List Row → List Change → List (ℕ × Change)
    → List Change → List (ℕ × Change) → Answered → Type 0
Settles set stamp r note body opening seen own new_seen new_own x =
    (routed : Routed) × Decides set.endpoints (errand_in set r stamp.received) opening seen own new_seen new_own routed
    × IsAnswered set stamp r routed.handling note body x

-- ---- what the code learns on the way

abbrev pub IsAsked : Request → Asked → Type 0
IsAsked r asked =
    (asked.info ≡ info_in r) × (asked.refused ≡ is_bad r)

abbrev pub IsJudged : Settings → Request → ℕ → Judged → Type 0
IsJudged set r moment judged =
    (judged.attributes ≡ attributes_in set r)
    × (judged.errand ≡ errand_in set r moment)
    × (judged.decision ≡ decision_in set r)
