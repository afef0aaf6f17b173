-- What is sent on for a request, and what comes of it (Kubernetes, "API Aggregation Layer").
use Rattle.std.specs.Prelude.{◌≡◌, ℕ, ◌⊎◌, Bool, List, [], ◌∷◌, ◌++◌, length, Option, Some, None, codes, bytes_eq}
use Rattle.audit_core.specs.declared.link_note.LinkNote.{LinkNote}
use Rattle.audit_core.specs.declared.link_note.LinkNote.TheVariants as note
use Rattle.audit_core.specs.declared.routed.Handling.{Handling}
use Rattle.audit_core.specs.declared.routed.Handling.TheVariants.{Refused, Served, Proxied}
use Rattle.exchange_replies.specs.declared.reached.Reached.{Reached}
use Rattle.exchange_replies.specs.declared.reached.Reached.TheVariants as reached
use Rattle.forward_link.specs.Exchange.{Answered, HandedBack}
use Rattle.forward_link.specs.Forwarded.{forwarded_head}
use Rattle.forward_link.specs.Says.{whole, bad, cut}
use Rattle.forward_link.specs.Target.{address_of}
use Rattle.front_base.specs.AuditId.{AuditId}
use Rattle.front_base.specs.declared.address.Address.{Address}
use Rattle.front_base.specs.declared.user.User.{User}
use Rattle.front_ports.specs.Cause.{Rose}
use Rattle.front_ports.specs.Dials.{failed_call}
use Rattle.front_ports.specs.Told.{Grows}
use Rattle.front_ports.specs.declared.dial.Call.{Call}
use Rattle.http_edge.specs.declared.request.Request.{Request}
use Rattle.http_head.specs.Framing.{framing}
use Rattle.http_head.specs.declared.body.Framing.{Framing}
use Rattle.http_head.specs.declared.body.Framing.TheVariants as framing_case

-- ---- what is sent

unfoldable pub is_head : Request → Bool
is_head r = bytes_eq r.head.method (codes "HEAD")

-- a body has a length where the client framed one
abbrev pub length_by : Framing → ℕ → Option ℕ
length_by framing_case.NoBody size = None
length_by (framing_case.Length said) size = Some size
length_by framing_case.Chunked size = Some size
length_by framing_case.Bad size = Some size

abbrev pub length_of : Request → Option ℕ
length_of r = length_by (framing r.head.headers r.head.minor) (length r.body)

-- where to, and which bytes
pub record Sent : Type 0 where
  pub to : Address
  pub text : List ℕ

-- a request of that user and with that audit ID is sent on where it is handled so
abbrev pub sent_on : Request → User → AuditId → Handling → Option Sent
sent_on r user id (Refused code) = None
sent_on r user id (Served local reply change) = None
sent_on r user id (Proxied target) = Some (record {
  to = address_of target;
  text = forwarded_head r.head user target id (length_of r) ++ r.body;
})

-- ---- what comes of it

-- what a dial tells: its calls, how often it failed, and how often a link of it did
pub record DialState : Type 0 where
  pub calls : Option (List Call)
  pub faults : ℕ
  pub link_faults : ℕ

-- it was sent on, and this came of it: one call was made, and the answer is what all bytes of its link say, unless a count of
-- faults rose
abbrev pub ReachesBy : Bool → Bool → Sent → DialState → DialState → Reached → Type 0
ReachesBy is_head long own m n reached.NotUsed = ⊥
ReachesBy is_head long own m n (reached.Whole head body) =
    Answered is_head long m.calls n.calls own.to own.text (whole head body)
ReachesBy is_head long own m n reached.DialFailed =
    Grows m.calls n.calls (failed_call own.to ∷ []) × Rose m.faults n.faults
ReachesBy is_head long own m n reached.BadReply =
    Answered is_head long m.calls n.calls own.to own.text bad
ReachesBy is_head long own m n reached.Cut =
    Answered is_head long m.calls n.calls own.to own.text cut
ReachesBy is_head long own m n reached.LinkFault =
    HandedBack m.calls n.calls own.to own.text × Rose m.link_faults n.link_faults

-- what is not to be sent on leaves the dial alone
abbrev pub Reaches : Bool → Bool → Option Sent → DialState → DialState → Reached → Type 0
Reaches is_head long None m n came = (came ≡ reached.NotUsed) × (n ≡ m)
Reaches is_head long (Some own) m n came = ReachesBy is_head long own m n came

-- memory ran out before the call, or after some front of the bytes was sent
abbrev pub StopsSending : Option Sent → DialState → DialState → Type 0
StopsSending None m n = n ≡ m
StopsSending (Some own) m n = (n ≡ m) ⊎ HandedBack m.calls n.calls own.to own.text

-- ---- how it is noted

abbrev pub note_of : Reached → LinkNote
note_of reached.NotUsed = note.NotUsed
note_of (reached.Whole head body) = note.Whole head.status
note_of reached.DialFailed = note.DialFailed
note_of reached.BadReply = note.BadReply
note_of reached.Cut = note.Cut
note_of reached.LinkFault = note.LinkFault

-- the body of the reply, if one came
abbrev pub body_of : Reached → List ℕ
body_of reached.NotUsed = []
body_of (reached.Whole head body) = body
body_of reached.DialFailed = []
body_of reached.BadReply = []
body_of reached.Cut = []
body_of reached.LinkFault = []
