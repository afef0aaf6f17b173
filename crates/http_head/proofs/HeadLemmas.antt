-- A block has one head.
use Rattle.std.proofs.Common.{◌≡◌, ℕ, List, [], ◌∷◌, map, refl, sym, ap, ◌∙◌}
use Rattle.httparse.specs.Grammar.{RequestHead, ResponseHead, status_code}
use Rattle.httparse.specs.Spans.{name_and_value}
use Rattle.http_head.specs.Request.{header_view, HasParts}
use Rattle.http_head.specs.Reply.{HasReplyParts}
use Rattle.http_head.specs.declared.header.Header.{Header}
use Rattle.http_head.specs.declared.reply.ReplyHead.{ReplyHead}
use Rattle.http_head.specs.declared.request.Head.{Head}

one_header : (a b : Header) → header_view a ≡ header_view b → a ≡ b
one_header a b e = ap (λ (p : List ℕ × List ℕ). let h : Header = record { name = p.0; value = p.1 } in h) e

pub one_list : (xs ys : List Header) → map header_view xs ≡ map header_view ys → xs ≡ ys
one_list [] [] e = refl
one_list [] (y ∷ ys) e = absurd (cc e)
one_list (x ∷ xs) [] e = absurd (cc e)
one_list (x ∷ xs) (y ∷ ys) e =
    let here : header_view x ≡ header_view y = cc in
    let there : map header_view xs ≡ map header_view ys = cc in
    let first = one_header x y here in
    let rest = one_list xs ys there in
    cc

same_head : (m n t u : List ℕ) (v w : ℕ) (h k : List Header) → m ≡ n → t ≡ u → v ≡ w → h ≡ k
    → ◌≡◌ {A = Head} (record { method = m; target = t; minor = v; headers = h }) (record { method = n; target = u; minor = w; headers = k })
same_head m n t u v w h k e f g i = cc

pub one_head_of : (a b : Head) (x y : RequestHead) → x ≡ y → HasParts a x → HasParts b y → a ≡ b
one_head_of a b x y e p q =
    let fields : map name_and_value x.fields ≡ map name_and_value y.fields = ap (λ (r : RequestHead). map name_and_value r.fields) e in
    same_head a.method b.method a.target b.target a.minor b.minor a.headers b.headers
    (p.method ∙ ap (λ (r : RequestHead). r.method) e ∙ sym q.method)
    (p.target ∙ ap (λ (r : RequestHead). r.target) e ∙ sym q.target)
    (p.minor ∙ ap (λ (r : RequestHead). r.minor) e ∙ sym q.minor)
    (one_list a.headers b.headers (p.headers ∙ fields ∙ sym q.headers))

same_reply : (s t v w : ℕ) (h k : List Header) → s ≡ t → v ≡ w → h ≡ k
    → ◌≡◌ {A = ReplyHead} (record { status = s; minor = v; headers = h }) (record { status = t; minor = w; headers = k })
same_reply s t v w h k e f g = cc

pub one_reply_of : (a b : ReplyHead) (x y : ResponseHead) → x ≡ y → HasReplyParts a x → HasReplyParts b y → a ≡ b
one_reply_of a b x y e p q =
    let fields : map name_and_value x.fields ≡ map name_and_value y.fields = ap (λ (r : ResponseHead). map name_and_value r.fields) e in
    same_reply a.status b.status a.minor b.minor a.headers b.headers
    (p.status ∙ ap (λ (r : ResponseHead). status_code r) e ∙ sym q.status)
    (p.minor ∙ ap (λ (r : ResponseHead). r.minor) e ∙ sym q.minor)
    (one_list a.headers b.headers (p.headers ∙ fields ∙ sym q.headers))
