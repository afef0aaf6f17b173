-- The bodies of this server's own replies (Kubernetes, "API conventions": response status kind).
use Rattle.std.specs.Prelude.{ℕ, ◌==◌, List, [], ◌∷◌, ◌++◌, codes, decimal, if◌then◌else◌}
use Rattle.json_span.specs.Quote.{quoted}
use Rattle.local_replies.specs.declared.reply.LocalReply.{LocalReply}
use Rattle.local_replies.specs.declared.reply.Content.TheVariants.{Json}
use Rattle.local_replies.specs.declared.status.Cause as code_cause

-- why a request is refused, for a program and for a person
pub record Cause : Type 0 where
  pub reason : List ℕ
  pub message : List ℕ

abbrev pub because : List ℕ → List ℕ → Cause
because reason message = record { reason = reason; message = message }

-- the cause that each code tells
unfoldable pub cause_of : ℕ → Cause
cause_of code =
    if code == 400 then because (codes "BadRequest") (codes "the request could not be read")
    else if code == 401 then because (codes "Unauthorized") (codes "the token is not known")
    else if code == 403 then because (codes "Forbidden") (codes "only system:masters may change APIServices")
    else if code == 404 then because (codes "NotFound") (codes "the requested resource was not found")
    else if code == 405 then because (codes "MethodNotAllowed") (codes "the method is not served here")
    else if code == 409 then because (codes "AlreadyExists") (codes "the APIService exists")
    else if code == 413 then because (codes "RequestEntityTooLarge") (codes "the request body is too large")
    else if code == 415 then because (codes "UnsupportedMediaType") (codes "only merge patches are served")
    else if code == 422 then because (codes "Invalid") (codes "the APIService is not accepted")
    else if code == 431 then because (codes "RequestHeaderTooLarge") (codes "the request head is too large")
    else if code == 500 then because (codes "InternalError") (codes "the audit event was not stored")
    else if code == 501 then because (codes "NotImplemented") (codes "the request is not served")
    else if code == 502 then because (codes "BadGateway") (codes "the backend gave no whole reply")
    else if code == 503 then because (codes "ServiceUnavailable") (codes "the backend is not available")
    else because [] (codes "the request was refused")

-- the codes that have a cause of their own
abbrev pub told_codes : List ℕ
told_codes = 400 ∷ 401 ∷ 403 ∷ 404 ∷ 405 ∷ 409 ∷ 413 ∷ 415 ∷ 422 ∷ 431 ∷ 500 ∷ 501 ∷ 502 ∷ 503 ∷ []

-- the Status of a failure
unfoldable pub status_text : ℕ → List ℕ → List ℕ → List ℕ
status_text code reason message =
    codes "{\"kind\":\"Status\",\"apiVersion\":\"v1\",\"metadata\":{},\"status\":\"Failure\",\"message\":"
    ++ quoted message ++ codes ",\"reason\":" ++ quoted reason ++ codes ",\"code\":" ++ decimal code ++ codes "}"

-- the Status of a success
unfoldable pub success_text : List ℕ
success_text = codes "{\"kind\":\"Status\",\"apiVersion\":\"v1\",\"metadata\":{},\"status\":\"Success\",\"code\":200}"

-- a reply in JSON
abbrev pub json_reply : ℕ → List ℕ → LocalReply
json_reply status body = record { status = status; content = Json; body = body }

abbrev pub status_reply : ℕ → List ℕ → List ℕ → LocalReply
status_reply code reason message = json_reply code (status_text code reason message)

-- the body of the refusal with that code
abbrev pub refusal_text : ℕ → List ℕ
refusal_text code = status_text code (cause_of code).reason (cause_of code).message

abbrev pub refusal : ℕ → LocalReply
refusal code = json_reply code (refusal_text code)

-- the refusal of a request before its path is looked at, where 403 says that it may not act as another user
abbrev pub front_refusal : ℕ → LocalReply
front_refusal code =
    if code == 403 then status_reply 403 (codes "Forbidden") (codes "only system:masters may impersonate")
    else refusal code

-- why no condition on what this server doesn't give holds
abbrev pub conflict_message : List ℕ → List ℕ
conflict_message name =
    codes "Operation cannot be fulfilled on apiservices.apiregistration.k8s.io \"" ++ name
    ++ codes "\": this server gives APIServices no uid and no resourceVersion, so no precondition on them holds"

-- the refusal of a request that depends on them
abbrev pub conflict : List ℕ → LocalReply
conflict name = status_reply 409 (codes "Conflict") (conflict_message name)

abbrev pub success : LocalReply
success = json_reply 200 success_text

-- what a value of the code says
abbrev pub cause_view : code_cause.Cause → Cause
cause_view cause = because cause.reason.now cause.message.now
