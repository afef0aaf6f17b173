-- Where the block of a written head ends, and how many lines it has.
use Rattle.std.proofs.Common.{◌≡◌, ℕ, ◌+◌, ◌<◌, ◌≤◌, true, false, List, [], ◌∷◌, ◌++◌, length, drop, count_by, Some, refl, ap, sym, ◌∙◌, arith, append_assoc, All}
use Rattle.std.specs.Prelude.{IsTrue, ◌==◌}
use Rattle.std.proofs.lemmas.List.{take_all, length-append}
use Rattle.std.proofs.lemmas.List.Elements.{All-head, All-tail, All-weaker, All-cons, All-append}
use Rattle.std.proofs.lemmas.Bool.Decides.{nat_tests}
use Rattle.httparse.specs.Grammar.{is_token_byte, is_uri_byte, is_value_byte, AllPass, IsToken}
use Rattle.http_head.specs.Block.{is_text, is_lf, run_len, end_size, end_from, block_len, block_in, line_count}
use Rattle.http_head.specs.Legal.{IsLegalHeader, AreLegalHeaders}
use Rattle.http_head.specs.Written.{line, header_lines}
use Rattle.http_head.specs.declared.block.TheConstants.{MOST_HEAD_BYTES, MOST_LINES}
use Rattle.http_head.specs.declared.header.Header.{Header}
use Rattle.http_head.proofs.LineLemmas.{lines-append}
use Rattle.http_head.proofs.RequestLemmas.{token_is_text}
use Rattle.http_head.proofs.StreamLemmas.{end_here, end_next, end_past}

-- no LF is among the bytes
abbrev pub IsOneLine : List ℕ → Type 0
IsOneLine bytes = All (λ b. is_lf b ≡ false) bytes

token_no_lf : (b : ℕ) → IsTrue (is_token_byte b) → is_lf b ≡ false
unfolding is_token_byte
token_no_lf b h = grind (arith, nat_tests)

uri_no_lf : (b : ℕ) → IsTrue (is_uri_byte b) → is_lf b ≡ false
uri_no_lf b h = grind (arith, nat_tests)

value_no_lf : (b : ℕ) → IsTrue (is_value_byte b) → is_lf b ≡ false
value_no_lf b h = grind (arith, nat_tests)

pub token_line : (bytes : List ℕ) → AllPass is_token_byte bytes → IsOneLine bytes
token_line bytes h = All-weaker (λ b. IsTrue (is_token_byte b)) (λ b. is_lf b ≡ false) token_no_lf bytes h

pub uri_line : (bytes : List ℕ) → AllPass is_uri_byte bytes → IsOneLine bytes
uri_line bytes h = All-weaker (λ b. IsTrue (is_uri_byte b)) (λ b. is_lf b ≡ false) uri_no_lf bytes h

pub value_line : (bytes : List ℕ) → AllPass is_value_byte bytes → IsOneLine bytes
value_line bytes h = All-weaker (λ b. IsTrue (is_value_byte b)) (λ b. is_lf b ≡ false) value_no_lf bytes h

-- bytes without LF are passed over, and count for no line
end_over : (xs rest : List ℕ) (at : ℕ) → IsOneLine xs → end_from at (xs ++ rest) ≡ end_from (at + length xs) rest
end_over [] rest at one = let e : at ≡ at + 0 = omega arith in ap (λ n. end_from n rest) e
end_over (x ∷ xs) rest at one =
    let here = All-head (λ b. is_lf b ≡ false) x xs one in
    let later = end_over xs rest (at + 1) (All-tail (λ b. is_lf b ≡ false) x xs one) in
    let e : at + 1 + length xs ≡ at + length (x ∷ xs) = omega arith in
    end_next at x (xs ++ rest) here ∙ later ∙ ap (λ n. end_from n rest) e

no_lines : (xs : List ℕ) → IsOneLine xs → count_by is_lf xs ≡ 0
no_lines [] one = refl
no_lines (x ∷ xs) one =
    let here = All-head (λ b. is_lf b ≡ false) x xs one in
    let later = no_lines xs (All-tail (λ b. is_lf b ≡ false) x xs one) in
    rw here later

no_lf : (b : ℕ) → is_text b ≡ true → is_lf b ≡ false
no_lf b h = grind (arith, nat_tests)

-- a text that begins with a byte of text is no line end
no_end : (b : ℕ) (xs : List ℕ) → is_text b ≡ true → end_size (b ∷ xs) ≡ 0
no_end b [] text = rw (no_lf b text) refl
no_end b (c ∷ xs) text =
    let cr : (b == 13) ≡ false = grind (arith, nat_tests) in
    rw (no_lf b text, cr) refl

no_end_token : (name rest : List ℕ) → IsToken name → end_size (name ++ rest) ≡ 0
no_end_token [] rest token = absurd (omega (arith, token.0))
no_end_token (b ∷ name) rest token = no_end b (name ++ rest) (token_is_text b (All-head (λ x. IsTrue (is_token_byte x)) b name token.1))

-- a header's line before its CR LF
abbrev line_text : Header → List ℕ
line_text h = h.name ++ (58 ∷ (32 ∷ h.value))

abbrev crlf_bytes : List ℕ
crlf_bytes = 13 ∷ 10 ∷ []

line_is : (h : Header) → line h ≡ line_text h ++ crlf_bytes
unfolding line
line_is h = sym (append_assoc h.name (58 ∷ (32 ∷ h.value)) crlf_bytes)

pub lines_nil : header_lines [] ≡ []
unfolding header_lines
lines_nil = refl

pub lines_cons : (h : Header) (hs : List Header) → header_lines (h ∷ hs) ≡ line h ++ header_lines hs
unfolding header_lines
lines_cons h hs = refl

one_line : (h : Header) → IsLegalHeader h → IsOneLine (line_text h)
one_line h legal =
    All-append (λ b. is_lf b ≡ false) h.name (58 ∷ (32 ∷ h.value)) (token_line h.name legal.name.1)
    (All-cons (λ b. is_lf b ≡ false) 58 (32 ∷ h.value) refl (All-cons (λ b. is_lf b ≡ false) 32 h.value refl (value_line h.value legal.value)))

regroup : (s e l f : List ℕ) → ((s ++ e) ++ l) ++ f ≡ s ++ (e ++ (l ++ f))
regroup s e l f = simp append_assoc

lines_are : (h : Header) (hs : List Header) → header_lines (h ∷ hs) ≡ (line_text h ++ crlf_bytes) ++ header_lines hs
lines_are h hs = lines_cons h hs ∙ ap (λ l. l ++ header_lines hs) (line_is h)

-- the first empty line after a line's text is that after all header lines
ends_after : (hs : List Header) (at : ℕ) → All IsLegalHeader hs
    → end_from at (crlf_bytes ++ (header_lines hs ++ crlf_bytes)) ≡ Some (at + (length (header_lines hs) + 4))
ends_after [] at legal =
    let none : crlf_bytes ++ (header_lines [] ++ crlf_bytes) ≡ 13 ∷ (10 ∷ crlf_bytes) = ap (λ l. crlf_bytes ++ (l ++ crlf_bytes)) lines_nil in
    let some : 0 < end_size crlf_bytes = omega arith in
    let e : at + 1 + 1 + 2 ≡ at + (length (header_lines []) + 4) = omega (arith, ap length lines_nil) in
    ap (end_from at) none ∙ end_next at 13 (10 ∷ crlf_bytes) refl ∙ end_here (at + 1) 10 crlf_bytes refl some ∙ ap Some e
ends_after (h ∷ hs) at legal =
    let mine = All-head IsLegalHeader h hs legal in
    let rest = crlf_bytes ++ (header_lines hs ++ crlf_bytes) in
    let parts : header_lines (h ∷ hs) ++ crlf_bytes ≡ line_text h ++ rest =
    ap (λ l. l ++ crlf_bytes) (lines_are h hs) ∙ regroup (line_text h) crlf_bytes (header_lines hs) crlf_bytes in
    let text = line_text h ++ rest in
    let none : end_size text ≡ 0 =
    ap end_size (append_assoc h.name (58 ∷ (32 ∷ h.value)) rest) ∙ no_end_token h.name ((58 ∷ (32 ∷ h.value)) ++ rest) mine.name in
    let over = end_over (line_text h) rest (at + 1 + 1) (one_line h mine) in
    let later = ends_after hs (at + 1 + 1 + length (line_text h)) (All-tail IsLegalHeader h hs legal) in
    let size = ap length (lines_are h hs) in
    let two = length-append (line_text h ++ crlf_bytes) (header_lines hs) in
    let one = length-append (line_text h) crlf_bytes in
    let e : at + 1 + 1 + length (line_text h) + (length (header_lines hs) + 4) ≡ at + (length (header_lines (h ∷ hs)) + 4) = omega (arith, size, two, one) in
    ap (λ l. end_from at (crlf_bytes ++ l)) parts ∙ end_next at 13 (10 ∷ text) refl ∙ end_past (at + 1) 10 text none ∙ over ∙ later ∙ ap Some e

count_lines : (hs : List Header) → All IsLegalHeader hs → count_by is_lf (header_lines hs) ≡ length hs
count_lines [] legal = ap (count_by is_lf) lines_nil
count_lines (h ∷ hs) legal =
    let later = count_lines hs (All-tail IsLegalHeader h hs legal) in
    let here = no_lines (line_text h) (one_line h (All-head IsLegalHeader h hs legal)) in
    let are = ap (count_by is_lf) (lines_are h hs) in
    let two = lines-append (line_text h ++ crlf_bytes) (header_lines hs) in
    let one = lines-append (line_text h) crlf_bytes in
    omega (arith, later, here, are, two, one)

-- a start line's text, and then the header lines
abbrev pub text_of : List ℕ → List Header → List ℕ
text_of start hs = start ++ (crlf_bytes ++ (header_lines hs ++ crlf_bytes))

-- the text of a head is a block, which has a line for each header and two more
pub block_is : (start : List ℕ) (hs : List Header) → IsOneLine start → AreLegalHeaders hs → run_len (text_of start hs) ≡ 0
    → length (text_of start hs) ≤ MOST_HEAD_BYTES → block_in (text_of start hs) ≡ Some (length (text_of start hs))
block_is start hs one legal run few =
    let text = text_of start hs in
    let all : block_in text ≡ block_len text = ap block_len (take_all MOST_HEAD_BYTES text few) in
    let from : block_len text ≡ end_from 0 text = ap (λ n. end_from n (drop n text)) run in
    let over = end_over start (crlf_bytes ++ (header_lines hs ++ crlf_bytes)) 0 one in
    let ends = ends_after hs (0 + length start) legal.legal in
    let size = length-append start (crlf_bytes ++ (header_lines hs ++ crlf_bytes)) in
    let last = length-append (header_lines hs) crlf_bytes in
    let e : 0 + length start + (length (header_lines hs) + 4) ≡ length text = omega (arith, size, last) in
    all ∙ from ∙ over ∙ ends ∙ ap Some e

pub few_lines : (start : List ℕ) (hs : List Header) → IsOneLine start → AreLegalHeaders hs → run_len (text_of start hs) ≡ 0
    → line_count (text_of start hs) ≤ MOST_LINES
few_lines start hs one legal run =
    let text = text_of start hs in
    let from : line_count text ≡ count_by is_lf text = ap (λ n. count_by is_lf (drop n text)) run in
    let two = lines-append start (crlf_bytes ++ (header_lines hs ++ crlf_bytes)) in
    let three = lines-append (header_lines hs) crlf_bytes in
    let four = lines-append crlf_bytes (header_lines hs ++ crlf_bytes) in
    let end : count_by is_lf crlf_bytes ≡ 1 = refl in
    omega (arith, from, two, three, four, end, no_lines start one, count_lines hs legal.legal, legal.few)
