-- The head of a reply as the client gets it (RFC 9110, sections 7.6.1 and 8.6; RFC 9112, section 6).
use Rattle.std.specs.Prelude.{ℕ, Bool, true, false, not, ◌&&◌, ◌||◌, ◌==◌, List, [], ◌∷◌, ◌++◌, filter, codes, decimal, if◌then◌else◌}
use Rattle.body_frames.specs.declared.frame.Frame.{Frame}
use Rattle.body_frames.specs.declared.frame.Frame.TheVariants.{NoBody, Length, Chunked, Close}
use Rattle.front_base.specs.AuditId.{AuditId, audit_id_text}
use Rattle.http_head.specs.Framing.{framing}
use Rattle.http_head.specs.Name.{is_named}
use Rattle.http_head.specs.Written.{named}
use Rattle.http_head.specs.declared.body.Framing.{Framing}
use Rattle.http_head.specs.declared.body.Framing.TheVariants as framing_case
use Rattle.http_head.specs.declared.header.Header.{Header}
use Rattle.http_head.specs.declared.reply.ReplyHead.{ReplyHead}
use Rattle.forward_link.specs.Hop.{is_hop}

abbrev pub is_length : Framing → Bool
is_length (framing_case.Length size) = true
is_length _ = false

abbrev pub is_no_body : Frame → Bool
is_no_body NoBody = true
is_no_body _ = false

-- a reply with no body keeps the length that it speaks of: to HEAD, or 304, but not 204
abbrev pub keeps_length : ReplyHead → Frame → Bool
keeps_length head frame =
    is_no_body frame && (not (head.status == 204) && is_length (framing head.headers head.minor))

-- a header of the backend's passes; `keeps` says whether its length does
abbrev pub returns : List Header → Bool → Header → Bool
returns headers keeps header =
    not (is_hop headers header)
    && (not (is_named (codes "audit-id") header.name) && (keeps || not (is_named (codes "content-length") header.name)))

-- how the body is framed to the client, who may be of version 1.0
abbrev pub frame_headers : Frame → Bool → List Header
frame_headers NoBody old_client = []
frame_headers (Length size) old_client = named (codes "Content-Length") (decimal size) ∷ []
frame_headers _ old_client = if old_client then [] else named (codes "Transfer-Encoding") (codes "chunked") ∷ []

abbrev pub close_header : Bool → List Header
close_header closing = if closing then named (codes "Connection") (codes "close") ∷ [] else []

abbrev pub client_headers : ReplyHead → AuditId → Frame → Bool → Bool → List Header
client_headers head id frame old_client closing =
    filter (returns head.headers (keeps_length head frame)) head.headers
    ++ (named (codes "Audit-ID") (audit_id_text id) ∷ (frame_headers frame old_client ++ close_header closing))

abbrev pub client_head : ReplyHead → AuditId → Frame → Bool → Bool → ReplyHead
client_head head id frame old_client closing = record {
  status = head.status;
  minor = 1;
  headers = client_headers head id frame old_client closing;
}
