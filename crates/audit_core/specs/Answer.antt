-- What a request is answered (Kubernetes, "API Aggregation Layer").
use Rattle.std.specs.Prelude.{ℕ, List}
use Rattle.local_replies.specs.Status.{front_refusal}
use Rattle.audit_core.specs.declared.link_note.LinkNote.{LinkNote}
use Rattle.audit_core.specs.declared.link_note.LinkNote.TheVariants.{NotUsed, Whole, Streamed, DialFailed, BadReply, Cut, LinkFault}
use Rattle.audit_core.specs.declared.routed.Handling.{Handling}
use Rattle.audit_core.specs.declared.routed.Handling.TheVariants.{Refused, Served, Proxied}

-- ---- the status

-- that of a request that is sent on: what the backend replied, 503 where it could not be dialed, and 502 where no whole
-- reply came. A link that was never used counts as one that could not be dialed
abbrev pub link_status : LinkNote → ℕ
link_status NotUsed = 503
link_status (Whole status) = status
link_status (Streamed status) = status
link_status DialFailed = 503
link_status BadReply = 502
link_status Cut = 502
link_status LinkFault = 502

abbrev pub status_of : Handling → LinkNote → ℕ
status_of (Refused code) note = code
status_of (Served local reply change) note = reply.status
status_of (Proxied target) note = link_status note

-- ---- the body, where a link gave this

abbrev pub refused_body : ℕ → List ℕ
refused_body code = (front_refusal code).body

abbrev pub link_body : LinkNote → List ℕ → List ℕ
link_body NotUsed body = refused_body 503
link_body (Whole status) body = body
link_body (Streamed status) body = body
link_body DialFailed body = refused_body 503
link_body BadReply body = refused_body 502
link_body Cut body = refused_body 502
link_body LinkFault body = refused_body 502

abbrev pub body_of : Handling → LinkNote → List ℕ → List ℕ
body_of (Refused code) note body = refused_body code
body_of (Served local reply change) note body = reply.body
body_of (Proxied target) note body = link_body note body
