-- What is kept of a body that was handed on.
use Rattle.std.proofs.Common.{◌≡◌, ℕ, ◌<◌, nat_le, Bool, true, false, if◌then◌else◌, List, [], length, None, Some, sym, ap, ◌∙◌, arith}
use Rattle.audit_core.specs.Exchange.{sent_body}
use Rattle.exchange_replies.specs.Sent.{is_head}
use Rattle.http_edge.specs.declared.request.Request.{Request}

pub sent_none : (r : Request) (t : Bool) (body : List ℕ) → t ≡ is_head r → t ≡ true → sent_body r.head.method body ≡ []
unfolding is_head
sent_none r t body e f = ap (λ b. if b then [] else body) (sym e ∙ f)

pub sent_all : (r : Request) (t : Bool) (body : List ℕ) → t ≡ is_head r → t ≡ false → sent_body r.head.method body ≡ body
unfolding is_head
sent_all r t body e f = ap (λ b. if b then [] else body) (sym e ∙ f)

pub kept_some : (b : Bool) (body bytes : List ℕ) → Some bytes ≡ (if b then Some body else None) → bytes ≡ body
kept_some true body bytes e = cc
kept_some false body bytes e = absurd (cc e)

pub kept_none : (b : Bool) (most : ℕ) (body : List ℕ) → b ≡ nat_le (length body) most → None ≡ (if b then Some body else None) → most < length body
kept_none true most body is e = absurd (cc e)
kept_none false most body is e = grind arith
