-- Requests of which an auditor sees the same (Kubernetes, "Auditing", audit policy).
use Rattle.std.specs.Prelude.{◌≡◌, ◌≢◌, ◌||◌, Bool, true, false, ℕ, List, Option, Some, None, ⊤}
use Rattle.alike_requests.specs.Seen.{Replied, Seen, Settled, is_too_large}
use Rattle.alike_requests.specs.Seen.{cut, unfinished, whole}
use Rattle.audit_core.specs.Answer.{link_body, link_status}
use Rattle.audit_core.specs.Errand.{acting_in, attributes_in, errand_in, info_in, user_in}
use Rattle.audit_core.specs.Exchange.{KeepsReply, KeepsRequest, agent_in, decision_in}
use Rattle.audit_core.specs.declared.link_note.LinkNote.{LinkNote}
use Rattle.audit_core.specs.declared.link_note.LinkNote.TheVariants as note
use Rattle.audit_core.specs.declared.offers.OfferNote.{OfferNote}
use Rattle.audit_core.specs.declared.settings.Settings.{Settings}
use Rattle.exchange_replies.specs.Sent.{is_head}
use Rattle.front_base.specs.declared.level.Level.TheVariants as levels
use Rattle.role_threads.specs.Lists.{AllPairs}
use Rattle.stage_event.specs.Due.{reply_due}
use Rattle.stage_event.specs.Views.{shown}
use Rattle.stage_event.specs.declared.facts.Kept.{Kept}

-- ---- the status

-- two requests that were answered want the same, the same rows decided, and their links gave the same status
pub record AnsweredAlike (set : Settings) (s t : Seen) (by other : Settled) : Type 0 where
  pub wanted : errand_in set s.request s.exchange.facts.received ≡ errand_in set t.request t.exchange.facts.received
  pub rows : by.rows ≡ other.rows
  pub link : link_status by.link ≡ link_status other.link

-- where memory stopped one of them before it was answered: the same status was noted
pub record StoppedAlike (s t : Seen) : Type 0 where
  pub status : s.exchange.facts.status ≡ t.exchange.facts.status

abbrev pub SettledAlike : Settings → Seen → Seen → Option Settled → Option Settled → Type 0
SettledAlike set s t None None = ⊤
SettledAlike set s t None (Some other) = StoppedAlike s t
SettledAlike set s t (Some by) None = StoppedAlike s t
SettledAlike set s t (Some by) (Some other) = AnsweredAlike set s t by other

-- ---- the reply's body

-- a backend's reply came over the link: the body of any other reply is this server's own
abbrev pub gives_body : LinkNote → Bool
gives_body note.NotUsed = false
gives_body (note.Whole status) = true
gives_body (note.Streamed status) = true
gives_body note.DialFailed = false
gives_body note.BadReply = false
gives_body note.Cut = false
gives_body note.LinkFault = false

-- both are HEAD or none is. Where a backend's reply came to one, the same is kept of what their links give
pub record BodiesAlike (set : Settings) (s t : Seen) (by other : Settled) (these those : List ℕ) : Type 0 where
  pub head : is_head s.request ≡ is_head t.request
  pub body : (gives_body by.link || gives_body other.link) ≡ true → (kept : Kept)
      → KeepsReply (decision_in set s.request) (attributes_in set s.request) s.request (link_body by.link these) kept
      → KeepsReply (decision_in set s.request) (attributes_in set s.request) t.request (link_body other.link those) kept

-- where one of the two replies was cut, or not kept since memory ran out: an event shows the same of what was kept
pub record ShownAlike (s t : Seen) : Type 0 where
  pub shown : shown s.exchange.facts.reply ≡ shown t.exchange.facts.reply

-- of a reply that was cut, or not kept, an event shows nothing
abbrev pub EndedAlike : Settings → Seen → Seen → Settled → Settled → Replied → Replied → Type 0
EndedAlike set s t by other (whole these) (whole those) = BodiesAlike set s t by other these those
EndedAlike set s t by other (whole these) cut = ShownAlike s t
EndedAlike set s t by other (whole these) unfinished = ShownAlike s t
EndedAlike set s t by other cut (whole those) = ShownAlike s t
EndedAlike set s t by other cut cut = ⊤
EndedAlike set s t by other cut unfinished = ⊤
EndedAlike set s t by other unfinished (whole those) = ShownAlike s t
EndedAlike set s t by other unfinished cut = ⊤
EndedAlike set s t by other unfinished unfinished = ⊤

abbrev pub RepliedAlike : Settings → Seen → Seen → Option Settled → Option Settled → Type 0
RepliedAlike set s t None None = ⊤
RepliedAlike set s t None (Some other) = ShownAlike s t
RepliedAlike set s t (Some by) None = ShownAlike s t
RepliedAlike set s t (Some by) (Some other) = EndedAlike set s t by other by.replied other.replied

-- ---- the offers

-- where both events fitted in a line, the same became of both lines
abbrev pub SameFate : OfferNote → OfferNote → Type 0
SameFate a b = is_too_large a.outcome ≡ false → is_too_large b.outcome ≡ false → a.outcome ≡ b.outcome

-- as many offers were made
abbrev pub OfferedAlike : List OfferNote → List OfferNote → Type 0
OfferedAlike these those = AllPairs SameFate these those

-- ---- all of it

-- above None an event shows the same of both: of what was asked, by whom and as whom, when, what is kept of its body, and what the
-- reply was, where the level shows one
pub record AlikeShown (set : Settings) (s t : Seen) : Type 0 where
  pub target : s.request.head.target ≡ t.request.head.target
  pub info : info_in s.request ≡ info_in t.request
  pub user : user_in set s.request ≡ user_in set t.request
  pub acting : acting_in set s.request ≡ acting_in set t.request
  pub agent : agent_in s.request.head.headers ≡ agent_in t.request.head.headers
  pub moments : s.stamp ≡ t.stamp
  pub body : (kept : Kept) → KeepsRequest (decision_in set s.request) (attributes_in set s.request) s.request kept
      → KeepsRequest (decision_in set t.request) (attributes_in set t.request) t.request kept
  pub settled : SettledAlike set s t s.settled t.settled
  pub reply : reply_due (decision_in set s.request).level (info_in s.request) ≡ true → RepliedAlike set s t s.settled t.settled
  pub offers : OfferedAlike s.exchange.offers t.exchange.offers

-- requests of one level
pub record AlikeSeen (set : Settings) (s t : Seen) : Type 0 where
  pub level : (decision_in set s.request).level ≡ (decision_in set t.request).level
  pub shown : (decision_in set s.request).level ≢ levels.None → AlikeShown set s t
