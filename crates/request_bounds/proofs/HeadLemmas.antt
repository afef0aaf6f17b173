-- How many bytes the parts of a head have.
use Rattle.std.proofs.Common.{◌≡◌, ℕ, ◌+◌, ◌≤◌, length, List, [], ◌∷◌, ◌++◌, map, refl, ap, ◌∙◌, length-append, arith, reverse}
use Rattle.std.specs.Prelude.{IsTrue, nat_lt, not, ◌==◌}
use Rattle.std.specs.List.{All, flat_map}
use Rattle.std.proofs.lemmas.Bool.{cond_both, ltb-true, and_parts}
use Rattle.std.proofs.lemmas.List.Elements.{All-same, All-weaker}
use Rattle.std.proofs.lemmas.List.{length-reverse, append-nil}
use Rattle.httparse.specs.Grammar.{LineEnd, crlf, lf, print_end, print_blank, print_version, Field, print_field, print_section, skip_ows, trim_ows, is_ows, field_value, RequestHead, print_request, is_uri_byte}
use Rattle.httparse.specs.Spans.{name_and_value}
use Rattle.http_head.specs.Request.{IsHeadOf, header_view}
use Rattle.http_head.specs.declared.header.Header.{Header}
use Rattle.http_head.specs.declared.request.Head.{Head}
use Rattle.request_bounds.specs.Bounds.{headers_length}

end-size : (e : LineEnd) → 1 ≤ length (print_end e)
end-size crlf = omega arith
end-size lf = omega arith

skip-most : (bytes : List ℕ) → length (skip_ows bytes) ≤ length bytes
skip-most [] = omega arith
skip-most (b ∷ bs) =
    let rest = skip-most bs in
    cond_both (is_ows b) (skip_ows bs) (b ∷ bs) (λ (l : List ℕ). length l ≤ length (b ∷ bs)) (λ e. omega arith) (λ e. omega arith)

trim-most : (bytes : List ℕ) → length (trim_ows bytes) ≤ length bytes
unfolding trim_ows
trim-most bytes =
    let a = length-reverse (skip_ows (reverse (skip_ows bytes))) in
    let b = skip-most (reverse (skip_ows bytes)) in
    let c = length-reverse (skip_ows bytes) in
    let d = skip-most bytes in
    omega arith

-- ---- header lines

abbrev pairs_length : List (List ℕ × List ℕ) → ℕ
pairs_length [] = 0
pairs_length (p ∷ ps) = length p.0 + length p.1 + 2 + pairs_length ps

headers-pairs : (hs : List Header) → headers_length hs ≡ pairs_length (map header_view hs)
headers-pairs [] = refl
headers-pairs (h ∷ hs) = let rest = headers-pairs hs in omega arith

field-most : (f : Field) → length f.name + length (field_value f) + 2 ≤ length (print_field f)
field-most f =
    let a = trim-most f.raw in
    let b = end-size f.end in
    let c = length-append (f.name ++ 58 ∷ f.raw) (print_end f.end) in
    let d = length-append f.name (58 ∷ f.raw) in
    omega arith

fields-most : (fs : List Field) → pairs_length (map name_and_value fs) ≤ length (flat_map print_field fs)
fields-most [] = omega arith
fields-most (f ∷ fs) =
    let a = field-most f in
    let b = length-append (print_field f) (flat_map print_field fs) in
    let rest = fields-most fs in
    omega arith

section-most : (fs : List Field) (last : LineEnd) → pairs_length (map name_and_value fs) + 1 ≤ length (print_section fs last)
section-most fs last =
    let a = fields-most fs in
    let b = end-size last in
    let c = length-append (flat_map print_field fs) (print_end last) in
    omega arith

-- ---- the whole head

-- parts one after another
six_parts : (a b c d e f : List ℕ) → length (a ++ b ++ c ++ d ++ e ++ f)
    ≡ length a + length b + length c + length d + length e + length f
six_parts a b c d e f =
    let q = length-append (a ++ b ++ c ++ d ++ e) f in
    let r = length-append (a ++ b ++ c ++ d) e in
    let s = length-append (a ++ b ++ c) d in
    let t = length-append (a ++ b) c in
    let u = length-append a b in
    omega arith

request-size : (h : RequestHead) →
    length h.method + length h.target + pairs_length (map name_and_value h.fields) + 12 ≤ length (print_request h)
unfolding print_request
request-size h =
    let a = six_parts (print_blank h.blank) h.method (32 ∷ h.target) (32 ∷ print_version h.minor) (print_end h.line_end) (print_section h.fields h.last) in
    let b = end-size h.line_end in
    let c = section-most h.fields h.last in
    omega arith

pub head-size : (block : List ℕ) (head : Head) → IsHeadOf block head →
    length head.method + length head.target + headers_length head.headers + 12 ≤ length block
head-size block head h =
    let read : RequestHead = h.0 in
    let whole : length block ≡ length (print_request read) = ap length (h.1.1 ∙ append-nil (print_request read)) in
    let size = request-size read in
    let method = ap length h.2.method in
    let target = ap length h.2.target in
    let headers : headers_length head.headers ≡ pairs_length (map name_and_value read.fields) =
    headers-pairs head.headers ∙ ap pairs_length h.2.headers in
    omega arith

uri_printed : (b : ℕ) → IsTrue (is_uri_byte b) → 32 ≤ b
uri_printed b h = let low = ltb-true 32 b (and_parts (nat_lt 32 b) (not (b == 127)) h).0 in omega arith

-- a target has no control characters
pub target-printed : (block : List ℕ) (head : Head) → IsHeadOf block head → All (λ b. 32 ≤ b) head.target
target-printed block head h =
    All-same (λ b. 32 ≤ b) head.target h.0.target h.2.target
    (All-weaker (λ b. IsTrue (is_uri_byte b)) (λ b. 32 ≤ b) uri_printed h.0.target h.1.0.target.1)
