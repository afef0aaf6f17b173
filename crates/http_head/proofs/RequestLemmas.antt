-- A request head that is a block has few fields, and its words are text.
use Rattle.std.proofs.Common.{◌≡◌, ℕ, ◌<◌, ◌≤◌, true, List, [], ◌∷◌, ◌++◌, length, take, drop, map, count_by, refl, ap, sym, subst, ◌∙◌, arith, append_assoc, append-nil, All}
use Rattle.std.specs.Prelude.{IsUtf8, IsTrue}
use Rattle.std.proofs.lemmas.List.{drop_at}
use Rattle.std.proofs.lemmas.List.Elements.{All-head, All-tail, All-weaker, All-cons, All-nil}
use Rattle.std.proofs.lemmas.Str.{IsUtf8-from_ascii}
use Rattle.std.proofs.lemmas.Str.Ascii.{IsAscii-from_all}
use Rattle.std.proofs.lemmas.Bool.Decides.{nat_tests}
use Rattle.httparse.specs.Ascii.{space}
use Rattle.httparse.specs.Grammar.{LineEnd, print_end, print_blank, print_version, Field, IsField, print_section, is_token_byte, IsToken, RequestHead, print_request, IsRequestHead}
use Rattle.httparse.specs.Spans.{header_bytes, name_and_value, IsRequestAt}
use Rattle.httparse.specs.declared.spans.HeaderSpan.{HeaderSpan}
use Rattle.httparse.specs.declared.spans.RequestSpans.{RequestSpans}
use Rattle.http_head.specs.Texts.{HasTextName, HasTexts}
use Rattle.http_head.specs.Block.{is_text, is_lf, run_len, line_count}
use Rattle.http_head.specs.declared.block.TheConstants.{MOST_LINES}
use Rattle.http_head.proofs.LineLemmas.{run_len-blank, lines-append, lines-end, lines-section}

token_is_ascii : (b : ℕ) → IsTrue (is_token_byte b) → b < 128
unfolding is_token_byte
token_is_ascii b h = grind (arith, nat_tests)

pub token_is_text : (b : ℕ) → IsTrue (is_token_byte b) → is_text b ≡ true
unfolding is_token_byte
token_is_text b h = grind (arith, nat_tests)

-- what follows the method
abbrev pub after_method : RequestHead → List ℕ
after_method h = (space ∷ h.target) ++ ((space ∷ print_version h.minor) ++ (print_end h.line_end ++ print_section h.fields h.last))

regroup : (a b c d e f : List ℕ) → ((((a ++ b) ++ c) ++ d) ++ e) ++ f ≡ a ++ (b ++ (c ++ (d ++ (e ++ f))))
regroup a b c d e f = simp append_assoc

pub request-parts : (h : RequestHead) → print_request h ≡ print_blank h.blank ++ (h.method ++ after_method h)
unfolding print_request
request-parts h =
    regroup (print_blank h.blank) h.method (space ∷ h.target) (space ∷ print_version h.minor) (print_end h.line_end) (print_section h.fields h.last)

pub run_is : (ends : List LineEnd) (method rest : List ℕ) → IsToken method → run_len (print_blank ends ++ (method ++ rest)) ≡ length (print_blank ends)
run_is ends [] rest token = absurd (omega (arith, token.0))
run_is ends (b ∷ method) rest token = run_len-blank ends b (method ++ rest) (token_is_text b (All-head (λ x. IsTrue (is_token_byte x)) b method token.1))

pub few_fields : (h : RequestHead) (block : List ℕ) → IsRequestHead h → block ≡ print_request h ++ [] → line_count block ≤ MOST_LINES → length h.fields ≤ 100
few_fields h block valid e few =
    let parts : block ≡ print_blank h.blank ++ (h.method ++ after_method h) = e ∙ append-nil (print_request h) ∙ request-parts h in
    let run : run_len block ≡ length (print_blank h.blank) = ap run_len parts ∙ run_is h.blank h.method (after_method h) valid.method in
    let rest : drop (run_len block) block ≡ h.method ++ after_method h = ap (λ n. drop n block) run ∙ ap (drop (length (print_blank h.blank))) parts ∙ drop_at (print_blank h.blank) (h.method ++ after_method h) _ refl in
    let count : line_count block ≡ count_by is_lf (h.method ++ after_method h) = ap (count_by is_lf) rest in
    let section = print_section h.fields h.last in
    let zero = lines-append h.method (after_method h) in
    let one = lines-append (space ∷ h.target) ((space ∷ print_version h.minor) ++ (print_end h.line_end ++ section)) in
    let two = lines-append (space ∷ print_version h.minor) (print_end h.line_end ++ section) in
    let three = lines-append (print_end h.line_end) section in
    let own = lines-end h.line_end in
    let fields = lines-section h.fields h.last in
    omega (arith, few, count, zero, one, two, three, own, fields)

token_is_utf8 : (bs : List ℕ) → IsToken bs → IsUtf8 bs
token_is_utf8 bs token =
    IsUtf8-from_ascii bs (IsAscii-from_all bs (All-weaker (λ x. IsTrue (is_token_byte x)) (λ b. b < 128) token_is_ascii bs token.1))

pub names_are_text : (block : List ℕ) (spans : List HeaderSpan) (fields : List Field) → map (header_bytes block) spans ≡ map name_and_value fields → All IsField fields → All (HasTextName block) spans
names_are_text block [] fields e valid = All-nil (HasTextName block)
names_are_text block (s ∷ spans) [] e valid = absurd (cc)
names_are_text block (s ∷ spans) (f ∷ fields) e valid =
    let here : header_bytes block s ≡ name_and_value f = cc in
    let there : map (header_bytes block) spans ≡ map name_and_value fields = cc in
    let field = All-head IsField f fields valid in
    let P : List ℕ × List ℕ → Type 0 = λ p. IsUtf8 p.0 in
    All-cons (HasTextName block) s spans (subst P (sym here) (token_is_utf8 f.name field.name)) (names_are_text block spans fields there (All-tail IsField f fields valid))

pub texts_are : (block : List ℕ) (spans : List HeaderSpan) (r : RequestSpans) (h : RequestHead) → IsRequestHead h → IsRequestAt block spans r h → HasTexts block spans r
texts_are block spans r h valid at = record {
  method = subst IsUtf8 (sym at.method) (token_is_utf8 h.method valid.method);
  target = subst IsUtf8 (sym at.path) valid.target_text;
  names = names_are_text block (take r.headers spans) h.fields at.fields valid.fields;
}
