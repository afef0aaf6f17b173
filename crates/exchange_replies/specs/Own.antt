-- Replies of this server's own, as bytes (RFC 9110, section 8; RFC 9112, section 6).
use Rattle.std.specs.Prelude.{◌≡◌, ◌⊎◌, ℕ, Bool, true, false, List, [], ◌∷◌, ◌++◌, length, codes, decimal, if◌then◌else◌, Option, Some, None}
use Rattle.forward_link.specs.Client.{close_header}
use Rattle.front_base.specs.AuditId.{AuditId, audit_id_text}
use Rattle.http_head.specs.Written.{named, reply_text}
use Rattle.http_head.specs.declared.header.Header.{Header}
use Rattle.http_head.specs.declared.reply.ReplyHead.{ReplyHead}
use Rattle.local_replies.specs.Content.{media_type}
use Rattle.local_replies.specs.Status.{refusal}
use Rattle.local_replies.specs.declared.reply.LocalReply.{LocalReply}

-- a request that was read has an audit ID
abbrev pub id_header : Option AuditId → List Header
id_header None = []
id_header (Some id) = named (codes "Audit-ID") (audit_id_text id) ∷ []

-- the media type, the audit ID, the length of the body, and whether the connection closes
abbrev pub own_headers : LocalReply → Option AuditId → Bool → List Header
own_headers reply id closing =
    named (codes "Content-Type") (media_type reply.content)
    ∷ (id_header id ++ (named (codes "Content-Length") (decimal (length reply.body)) ∷ close_header closing))

abbrev pub own_head : LocalReply → Option AuditId → Bool → ReplyHead
own_head reply id closing = record { status = reply.status; minor = 1; headers = own_headers reply id closing }

unfoldable pub own_head_text : LocalReply → Option AuditId → Bool → List ℕ
own_head_text reply id closing = reply_text (own_head reply id closing)

-- its head and its body. A reply to HEAD has the head alone
abbrev pub own_text : Bool → LocalReply → Option AuditId → Bool → List ℕ
own_text is_head reply id closing =
    own_head_text reply id closing ++ (if is_head then [] else reply.body)

-- the codes of what is no request: it can't be read, its body or its head is too large
abbrev pub IsUnread : ℕ → Type 0
IsUnread code = (code ≡ 400) ⊎ ((code ≡ 413) ⊎ (code ≡ 431))

-- the refusal of what is no request, after which the connection closes
abbrev pub refusal_text : ℕ → List ℕ
refusal_text code = own_text false (refusal code) None true
