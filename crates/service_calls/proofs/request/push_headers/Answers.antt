use Rattle.std.proofs.Common.{◌≡◌, ℕ, List, [], ◌∷◌, ◌++◌, ap, ◌∙◌, append_assoc}
use Rattle.http_head.specs.Written.{header_lines}
use Rattle.http_head.specs.declared.header.Header.{Header}
use Rattle.service_calls.specs.Request.{headers_of}
use Rattle.service_calls.proofs.request.push_headers.Goals as goal

pushed : (o p q r s t : List ℕ) (a b c d e : Header) → p ≡ o ++ header_lines (a ∷ []) → q ≡ p ++ header_lines (b ∷ []) → r ≡ q ++ header_lines (c ∷ [])
    → s ≡ r ++ header_lines (d ∷ []) → t ≡ s ++ header_lines (e ∷ []) → t ≡ o ++ header_lines (a ∷ b ∷ c ∷ d ∷ e ∷ [])
unfolding header_lines
pushed o p q r s t a b c d e one two three four five = rw (five, four, three, two, one) (simp append_assoc)

pub returns : goal.returns
returns c =
    pushed c.args.out.now.items c.push_header.new.out.items c.push_header-2.new.out.items c.push_header-3.new.out.items c.push_header-4.new.out.items
    c.push_header-5.new.out.items _ _ _ _ _ c.in_ok-push_header.ensures c.in_ok-push_header-2.ensures c.in_ok-push_header-3.ensures
    c.in_ok-push_header-4.ensures c.in_ok-push_header-5.ensures
    ∙ ap (λ (host : List ℕ). c.args.out.now.items ++ header_lines (headers_of host)) c.as_bytes.ensures.value
