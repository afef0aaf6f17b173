-- The bytes that a client gets (Kubernetes, "API Aggregation Layer").
use Rattle.std.specs.Prelude.{ℕ, Bool, ◌==◌, if◌then◌else◌, List, [], ◌++◌, length, Some}
use Rattle.audit_core.specs.declared.routed.Handling.{Handling}
use Rattle.audit_core.specs.declared.routed.Handling.TheVariants.{Refused, Served, Proxied}
use Rattle.exchange_replies.specs.Own.{own_text}
use Rattle.exchange_replies.specs.Sent.{is_head}
use Rattle.exchange_replies.specs.declared.reached.Reached.{Reached}
use Rattle.exchange_replies.specs.declared.reached.Reached.TheVariants as reached
use Rattle.exchange_replies.specs.declared.reply_tag.ReplyTag.{ReplyTag}
use Rattle.forward_link.specs.Client.{client_head}
use Rattle.forward_link.specs.Kinds.{whole_frame}
use Rattle.http_edge.specs.declared.request.Request.{Request}
use Rattle.http_head.specs.Written.{reply_text}
use Rattle.http_head.specs.declared.reply.ReplyHead.{ReplyHead}
use Rattle.local_replies.specs.Status.{front_refusal}

-- ---- this server's own reply

abbrev pub refusal_for : Request → ReplyTag → ℕ → List ℕ
refusal_for r tag code = own_text (is_head r) (front_refusal code) (Some tag.id) tag.closing

-- to a request that was sent on it is the refusal that says why no reply came
abbrev pub own_text_by : Request → ReplyTag → Handling → ℕ → List ℕ
own_text_by r tag (Refused code) failure = refusal_for r tag code
own_text_by r tag (Served local reply change) failure = own_text (is_head r) reply (Some tag.id) tag.closing
own_text_by r tag (Proxied target) failure = refusal_for r tag failure

-- 502 where the backend was reached, and 503 where it wasn't
abbrev pub failure : Reached → ℕ
failure reached.NotUsed = 503
failure (reached.Whole head body) = 503
failure reached.DialFailed = 503
failure reached.BadReply = 502
failure reached.Cut = 502
failure reached.LinkFault = 502

-- ---- a backend's reply

-- what is for the client of the head of a whole reply whose body has so many bytes
unfoldable pub whole_head : Request → ReplyTag → ReplyHead → ℕ → List ℕ
whole_head r tag head size =
    reply_text (client_head head tag.id (whole_frame (is_head r) head.status size) (r.head.minor == 0) tag.closing)

-- ---- the reply to a request that was handled so, and whose link came to that

abbrev pub client_text : Request → ReplyTag → Handling → Reached → List ℕ
client_text r tag handling (reached.Whole head body) = whole_head r tag head (length body) ++ body
client_text r tag handling reached.NotUsed = own_text_by r tag handling (failure reached.NotUsed)
client_text r tag handling reached.DialFailed = own_text_by r tag handling (failure reached.DialFailed)
client_text r tag handling reached.BadReply = own_text_by r tag handling (failure reached.BadReply)
client_text r tag handling reached.Cut = own_text_by r tag handling (failure reached.Cut)
client_text r tag handling reached.LinkFault = own_text_by r tag handling (failure reached.LinkFault)

-- ---- what a call on the way gives

-- a reply to HEAD has no body
abbrev pub body_for : Bool → List ℕ → List ℕ
body_for is_head body = if is_head then [] else body
