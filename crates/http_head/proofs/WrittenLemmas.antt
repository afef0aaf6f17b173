-- A written head is a head of the grammar, with the same parts.
use Rattle.std.proofs.Common.{◌≡◌, ℕ, ◌+◌, ◌/◌, ◌%◌, ◌<◌, ◌≤◌, Bool, true, ◌&&◌, zero, suc, List, [], ◌∷◌, ◌++◌, length, take, map, Option, Some, None, refl, ap, sym, subst, ◌∙◌, arith, append_assoc, append-nil, All}
use Rattle.std.specs.Prelude.{IsTrue, ◌==◌, false, unwrap_or}
use Rattle.std.specs.Str.Parse.{digits_value}
use Rattle.std.specs.Char.{digit_value, is_ascii_digit}
use Rattle.std.specs.List.{flat_map, list_all}
use Rattle.std.proofs.lemmas.List.{take_all, take-append-le}
use Rattle.std.proofs.lemmas.List.Elements.{All-head, All-tail, All-cons, All-append, All-nil}
use Rattle.std.proofs.lemmas.List.Sums.{AllPass-from_list_all}
use Rattle.std.proofs.lemmas.Bool.Decides.{Decides-below_and, nat_tests}
use Rattle.std.proofs.lemmas.Str.{digit_value_digit}
use Rattle.http.specs.StatusCode.{code_digits, reason_phrase}
use Rattle.httparse.specs.Grammar.{crlf, is_value_byte, AllPass, Field, IsField, print_field, print_version, trim_ows, RequestHead, IsRequestHead, print_request, ResponseHead, IsResponseHead, print_response}
use Rattle.httparse.specs.Spans.{name_and_value}
use Rattle.httparse.proofs.TrimLemmas.{trim_ows_space}
use Rattle.http_head.specs.Block.{run_len, block_in, line_count}
use Rattle.http_head.specs.Legal.{IsLegalHeader, IsLegalRequest, IsLegalReply, request_1_1, reply_1_1}
use Rattle.http_head.specs.Reply.{IsReply, HasReplyParts, IsReplyAnswer}
use Rattle.http_head.specs.Request.{header_view, IsRequest, HasParts, IsRequestAnswer}
use Rattle.http_head.specs.Written.{line, header_lines, phrase, request_text, reply_text}
use Rattle.http_head.specs.declared.answer.HeadAnswer.TheVariants as answer
use Rattle.http_head.specs.declared.block.TheConstants.{MOST_HEAD_BYTES, MOST_LINES}
use Rattle.http_head.specs.declared.header.Header.{Header}
use Rattle.http_head.specs.declared.reply.ReplyHead.{ReplyHead}
use Rattle.http_head.specs.declared.request.Head.{Head}
use Rattle.http_head.proofs.EndLemmas.{IsOneLine, token_line, uri_line, value_line, lines_nil, lines_cons, text_of, block_is, few_lines}
use Rattle.http_head.proofs.ReplyLemmas.{response-parts}
use Rattle.http_head.proofs.RequestLemmas.{run_is, request-parts}
use Rattle.http_head.proofs.StreamLemmas.{block_in-more}

-- ---- headers

-- a header's line in the grammar
abbrev field_of : Header → Field
field_of h = record { name = h.name; raw = 32 ∷ h.value; end = crlf }

abbrev fields_of : List Header → List Field
fields_of hs = map field_of hs

line_is : (h : Header) → line h ≡ print_field (field_of h)
unfolding line
line_is h = sym (append_assoc h.name (58 ∷ (32 ∷ h.value)) (13 ∷ 10 ∷ []))

lines_are : (hs : List Header) → header_lines hs ≡ flat_map print_field (fields_of hs)
lines_are [] = lines_nil
lines_are (h ∷ hs) =
    lines_cons h hs ∙ ap (λ l. l ++ header_lines hs) (line_is h) ∙ ap (λ l. print_field (field_of h) ++ l) (lines_are hs)

fields_are_valid : (hs : List Header) → All IsLegalHeader hs → All IsField (fields_of hs)
fields_are_valid [] legal = All-nil IsField
fields_are_valid (h ∷ hs) legal =
    let mine = All-head IsLegalHeader h hs legal in
    let raw : AllPass is_value_byte (32 ∷ h.value) = All-cons (λ b. IsTrue (is_value_byte b)) 32 h.value refl mine.value in
    let field : IsField (field_of h) = record { name = mine.name; raw = raw } in
    All-cons IsField (field_of h) (fields_of hs) field (fields_are_valid hs (All-tail IsLegalHeader h hs legal))

views_are : (hs : List Header) → All IsLegalHeader hs → map header_view hs ≡ map name_and_value (fields_of hs)
views_are [] legal = refl
views_are (h ∷ hs) legal =
    let mine = All-head IsLegalHeader h hs legal in
    let later = views_are hs (All-tail IsLegalHeader h hs legal) in
    let trimmed : trim_ows (32 ∷ h.value) ≡ h.value = trim_ows_space h.value mine.begins mine.ends in
    ap (λ (v : List ℕ). (h.name, v) ∷ map header_view hs) (sym trimmed)
    ∙ ap (λ (l : List (List ℕ × List ℕ)). (h.name, trim_ows (32 ∷ h.value)) ∷ l) later

-- a text before others is what its length takes of them
whole_text : (text after : List ℕ) → take (length text) (text ++ after) ≡ text
whole_text text after =
    let all : length text ≤ length text = omega arith in
    take-append-le (length text) text after all ∙ take_all (length text) text all

-- ---- requests

abbrev request_tree : Head → RequestHead
request_tree head = record {
  blank = [];
  method = head.method;
  target = head.target;
  minor = 1;
  line_end = crlf;
  fields = fields_of head.headers;
  last = crlf;
}

regroup_request : (m s t v e l : List ℕ) → (m ++ (s ++ (t ++ (v ++ e)))) ++ (l ++ e) ≡ m ++ ((s ++ t) ++ (v ++ (e ++ (l ++ e))))
regroup_request m s t v e l = simp append_assoc

request_is : (head : Head) → request_text head ≡ print_request (request_tree head)
request_is head =
    let v = 32 ∷ print_version 1 in
    let e = 13 ∷ 10 ∷ [] in
    regroup_request head.method (32 ∷ []) head.target v e (header_lines head.headers)
    ∙ ap (λ l. head.method ++ ((32 ∷ head.target) ++ (v ++ (e ++ (l ++ e))))) (lines_are head.headers)
    ∙ sym (request-parts (request_tree head))

-- the start line's text
abbrev request_start : Head → List ℕ
request_start head = head.method ++ (32 ∷ (head.target ++ (32 ∷ print_version 1)))

regroup_start : (m s t v e l : List ℕ) → (m ++ (s ++ (t ++ (v ++ e)))) ++ (l ++ e) ≡ (m ++ (s ++ (t ++ v))) ++ (e ++ (l ++ e))
regroup_start m s t v e l = simp append_assoc

request_starts : (head : Head) → request_text head ≡ text_of (request_start head) head.headers
request_starts head = regroup_start head.method (32 ∷ []) head.target (32 ∷ print_version 1) (13 ∷ 10 ∷ []) (header_lines head.headers)

valid_request : (head : Head) → IsLegalRequest head → IsRequestHead (request_tree head)
valid_request head legal = record {
  method = legal.method;
  target = legal.target;
  target_text = legal.text;
  minor = omega arith;
  fields = fields_are_valid head.headers legal.headers.legal;
}

request_one_line : (head : Head) → IsLegalRequest head → IsOneLine (request_start head)
request_one_line head legal =
    let P : ℕ → Type 0 = λ b. (b == 10) ≡ false in
    let version : IsOneLine (32 ∷ print_version 1) = value_line (32 ∷ print_version 1) (AllPass-from_list_all is_value_byte (32 ∷ print_version 1) refl) in
    All-append P head.method (32 ∷ (head.target ++ (32 ∷ print_version 1))) (token_line head.method legal.method.1)
    (All-cons P 32 (head.target ++ (32 ∷ print_version 1)) refl
    (All-append P head.target (32 ∷ print_version 1) (uri_line head.target legal.target.1) version))

pub request_read_back : (head : Head) (after : List ℕ) → IsLegalRequest head → length (request_text head) ≤ MOST_HEAD_BYTES
    → IsRequestAnswer (request_text head ++ after) (answer.Whole (request_1_1 head) (length (request_text head)))
request_read_back head after legal few =
    let text = request_text head in
    let starts = request_starts head in
    let one = request_one_line head legal in
    let run : run_len (text_of (request_start head) head.headers) ≡ 0 =
    ap run_len (sym starts ∙ request_is head ∙ request-parts (request_tree head)) ∙ run_is [] head.method _ legal.method in
    let size : length (text_of (request_start head) head.headers) ≤ MOST_HEAD_BYTES = subst (λ (l : List ℕ). length l ≤ MOST_HEAD_BYTES) starts few in
    let block : block_in text ≡ Some (length text) = subst (λ (l : List ℕ). block_in l ≡ Some (length l)) (sym starts) (block_is (request_start head) head.headers one legal.headers run size) in
    let lines : line_count text ≤ MOST_LINES = subst (λ (l : List ℕ). line_count l ≤ MOST_LINES) (sym starts) (few_lines (request_start head) head.headers one legal.headers run) in
    let whole = whole_text text after in
    let reads : IsRequest text (request_tree head) = (valid_request head legal, request_is head ∙ sym (append-nil (print_request (request_tree head)))) in
    let parts : HasParts (request_1_1 head) (request_tree head) = record { method = refl; target = refl; minor = refl; headers = views_are head.headers legal.headers.legal } in (
      block_in-more text after (length text) block,
      subst (λ (l : List ℕ). line_count l ≤ MOST_LINES) (sym whole) lines,
      (request_tree head, subst (λ (l : List ℕ). IsRequest l (request_tree head)) (sym whole) reads, parts),
    )

-- ---- replies

abbrev reply_tree : ReplyHead → ResponseHead
reply_tree head = record {
  blank = [];
  minor = 1;
  digits = code_digits head.status;
  reason = Some (phrase head.status);
  line_end = crlf;
  fields = fields_of head.headers;
  last = crlf;
}

regroup_reply : (v s d p e l : List ℕ) → (v ++ (s ++ (d ++ (s ++ (p ++ e))))) ++ (l ++ e) ≡ v ++ ((s ++ d) ++ ((s ++ p) ++ (e ++ (l ++ e))))
regroup_reply v s d p e l = simp append_assoc

reply_is : (head : ReplyHead) → reply_text head ≡ print_response (reply_tree head)
reply_is head =
    let v = print_version 1 in
    let e = 13 ∷ 10 ∷ [] in
    let d = code_digits head.status in
    regroup_reply v (32 ∷ []) d (phrase head.status) e (header_lines head.headers)
    ∙ ap (λ l. v ++ ((32 ∷ d) ++ ((32 ∷ phrase head.status) ++ (e ++ (l ++ e))))) (lines_are head.headers)
    ∙ sym (response-parts (reply_tree head))

abbrev reply_start : ReplyHead → List ℕ
reply_start head = print_version 1 ++ (32 ∷ (code_digits head.status ++ (32 ∷ phrase head.status)))

regroup_reply_start : (v s d p e l : List ℕ) → (v ++ (s ++ (d ++ (s ++ (p ++ e))))) ++ (l ++ e) ≡ (v ++ (s ++ (d ++ (s ++ p)))) ++ (e ++ (l ++ e))
regroup_reply_start v s d p e l = simp append_assoc

reply_starts : (head : ReplyHead) → reply_text head ≡ text_of (reply_start head) head.headers
reply_starts head = regroup_reply_start (print_version 1) (32 ∷ []) (code_digits head.status) (phrase head.status) (13 ∷ 10 ∷ []) (header_lines head.headers)

-- each phrase is text of a status line
abbrev is_text_if_any : Option (List ℕ) → Bool
is_text_if_any None = true
is_text_if_any (Some text) = list_all is_value_byte text

abbrev are_texts_below : ℕ → Bool
are_texts_below zero = true
are_texts_below (suc n) = is_text_if_any (reason_phrase n) && are_texts_below n

reason_is_text : (n : ℕ) → n < 1000 → is_text_if_any (reason_phrase n) ≡ true
reason_is_text n h =
    let test = λ (k : ℕ). is_text_if_any (reason_phrase k) in
    (Decides-below_and test (λ k. test k ≡ true) are_texts_below (λ k. (λ x. x, λ x. x)) refl (λ _. refl) 1000).0 refl n h

phrase_is_text : (n : ℕ) → n < 1000 → AllPass is_value_byte (phrase n)
unfolding phrase
phrase_is_text n h = by_reason (reason_phrase n) (reason_is_text n h)
  where
    by_reason : (r : Option (List ℕ)) → is_text_if_any r ≡ true → AllPass is_value_byte (unwrap_or r [])
    by_reason None h = All-nil (λ b. IsTrue (is_value_byte b))
    by_reason (Some text) h = AllPass-from_list_all is_value_byte text h

digit_is : (d : ℕ) → d < 10 → IsTrue (is_ascii_digit (48 + d))
digit_is d h = grind (arith, nat_tests)

digit_says : (d : ℕ) → d < 10 → digit_value (48 + d) ≡ d
digit_says d h =
    let says = digit_value_digit (48 + d) (omega arith, omega arith) in
    omega (arith, says)

digits_are : (n : ℕ) → n < 1000 → AllPass is_ascii_digit (code_digits n)
digits_are n h =
    let P : ℕ → Type 0 = λ b. IsTrue (is_ascii_digit b) in
    All-cons P (48 + n / 100) ((48 + n / 10 % 10) ∷ (48 + n % 10) ∷ []) (digit_is (n / 100) (omega arith))
    (All-cons P (48 + n / 10 % 10) ((48 + n % 10) ∷ []) (digit_is (n / 10 % 10) (omega arith))
    (All-cons P (48 + n % 10) [] (digit_is (n % 10) (omega arith)) (All-nil P)))

digits_say : (n : ℕ) → n < 1000 → digits_value 10 (code_digits n) ≡ n
digits_say n h =
    let a = digit_says (n / 100) (omega arith) in
    let b = digit_says (n / 10 % 10) (omega arith) in
    let c = digit_says (n % 10) (omega arith) in
    rw (a, b, c) (omega arith)

valid_reply : (head : ReplyHead) → IsLegalReply head → IsResponseHead (reply_tree head)
valid_reply head legal = record {
  minor = omega arith;
  digits = (refl, digits_are head.status legal.status.1);
  reason = phrase_is_text head.status legal.status.1;
  fields = fields_are_valid head.headers legal.headers.legal;
}

digit_line : (n : ℕ) → IsOneLine (code_digits n)
digit_line n =
    let P : ℕ → Type 0 = λ b. (b == 10) ≡ false in
    All-cons P (48 + n / 100) ((48 + n / 10 % 10) ∷ (48 + n % 10) ∷ []) (not_ten (n / 100)) (All-cons P (48 + n / 10 % 10) ((48 + n % 10) ∷ []) (not_ten (n / 10 % 10)) (All-cons P (48 + n % 10) [] (not_ten (n % 10)) (All-nil P)))
  where
    not_ten : (d : ℕ) → (48 + d == 10) ≡ false
    not_ten d = grind (arith, nat_tests)

reply_one_line : (head : ReplyHead) → IsLegalReply head → IsOneLine (reply_start head)
reply_one_line head legal =
    let P : ℕ → Type 0 = λ b. (b == 10) ≡ false in
    let version : IsOneLine (print_version 1) = value_line (print_version 1) (AllPass-from_list_all is_value_byte (print_version 1) refl) in
    let text = value_line (phrase head.status) (phrase_is_text head.status legal.status.1) in
    All-append P (print_version 1) (32 ∷ (code_digits head.status ++ (32 ∷ phrase head.status))) version
    (All-cons P 32 (code_digits head.status ++ (32 ∷ phrase head.status)) refl
    (All-append P (code_digits head.status) (32 ∷ phrase head.status) (digit_line head.status)
    (All-cons P 32 (phrase head.status) refl text)))

pub reply_read_back : (head : ReplyHead) (after : List ℕ) → IsLegalReply head → length (reply_text head) ≤ MOST_HEAD_BYTES
    → IsReplyAnswer (reply_text head ++ after) (answer.Whole (reply_1_1 head) (length (reply_text head)))
reply_read_back head after legal few =
    let text = reply_text head in
    let starts = reply_starts head in
    let one = reply_one_line head legal in
    let run : run_len (text_of (reply_start head) head.headers) ≡ 0 = refl in
    let size : length (text_of (reply_start head) head.headers) ≤ MOST_HEAD_BYTES = subst (λ (l : List ℕ). length l ≤ MOST_HEAD_BYTES) starts few in
    let block : block_in text ≡ Some (length text) = subst (λ (l : List ℕ). block_in l ≡ Some (length l)) (sym starts) (block_is (reply_start head) head.headers one legal.headers run size) in
    let lines : line_count text ≤ MOST_LINES = subst (λ (l : List ℕ). line_count l ≤ MOST_LINES) (sym starts) (few_lines (reply_start head) head.headers one legal.headers run) in
    let whole = whole_text text after in
    let reads : IsReply text (reply_tree head) = (valid_reply head legal, reply_is head ∙ sym (append-nil (print_response (reply_tree head)))) in
    let parts : HasReplyParts (reply_1_1 head) (reply_tree head) = record { status = sym (digits_say head.status legal.status.1); minor = refl; headers = views_are head.headers legal.headers.legal } in (
      block_in-more text after (length text) block,
      subst (λ (l : List ℕ). line_count l ≤ MOST_LINES) (sym whole) lines,
      (reply_tree head, subst (λ (l : List ℕ). IsReply l (reply_tree head)) (sym whole) reads, parts),
    )
