-- A reply head that is a block has few fields, and its names are text.
use Rattle.std.proofs.Common.{◌≡◌, ℕ, ◌≤◌, List, [], ◌∷◌, ◌++◌, length, take, drop, count_by, refl, ap, ◌∙◌, arith, append_assoc, append-nil, All}
use Rattle.std.proofs.lemmas.List.{drop_at}
use Rattle.httparse.specs.Ascii.{space}
use Rattle.httparse.specs.Grammar.{print_end, print_blank, print_version, print_reason, print_section, ResponseHead, IsResponseHead, print_response}
use Rattle.httparse.specs.Spans.{IsResponseAt}
use Rattle.httparse.specs.declared.spans.HeaderSpan.{HeaderSpan}
use Rattle.httparse.specs.declared.spans.ResponseSpans.{ResponseSpans}
use Rattle.http_head.specs.Texts.{HasTextName}
use Rattle.http_head.specs.Block.{is_lf, run_len, line_count}
use Rattle.http_head.specs.declared.block.TheConstants.{MOST_LINES}
use Rattle.http_head.proofs.LineLemmas.{run_len-blank, lines-append, lines-end, lines-section}
use Rattle.http_head.proofs.RequestLemmas.{names_are_text}

-- what follows the blank lines
abbrev pub after_blank : ResponseHead → List ℕ
after_blank h = print_version h.minor ++ ((space ∷ h.digits) ++ (print_reason h.reason ++ (print_end h.line_end ++ print_section h.fields h.last)))

pub response-parts : (h : ResponseHead) → print_response h ≡ print_blank h.blank ++ after_blank h
unfolding print_response
response-parts h = simp append_assoc

pub few_fields : (h : ResponseHead) (block : List ℕ) → block ≡ print_response h ++ [] → line_count block ≤ MOST_LINES → length h.fields ≤ 100
few_fields h block e few =
    let parts : block ≡ print_blank h.blank ++ after_blank h = e ∙ append-nil (print_response h) ∙ response-parts h in
    let run : run_len block ≡ length (print_blank h.blank) = ap run_len parts ∙ run_len-blank h.blank 72 _ refl in
    let rest : drop (run_len block) block ≡ after_blank h = ap (λ n. drop n block) run ∙ ap (drop (length (print_blank h.blank))) parts ∙ drop_at (print_blank h.blank) (after_blank h) _ refl in
    let count : line_count block ≡ count_by is_lf (after_blank h) = ap (count_by is_lf) rest in
    let section = print_section h.fields h.last in
    let one = lines-append (print_version h.minor) ((space ∷ h.digits) ++ (print_reason h.reason ++ (print_end h.line_end ++ section))) in
    let two = lines-append (space ∷ h.digits) (print_reason h.reason ++ (print_end h.line_end ++ section)) in
    let three = lines-append (print_reason h.reason) (print_end h.line_end ++ section) in
    let four = lines-append (print_end h.line_end) section in
    let own = lines-end h.line_end in
    let fields = lines-section h.fields h.last in
    omega (arith, few, count, one, two, three, four, own, fields)

pub reply_names : (block : List ℕ) (spans : List HeaderSpan) (r : ResponseSpans) (h : ResponseHead) → IsResponseHead h → IsResponseAt block spans r h → All (HasTextName block) (take r.headers spans)
reply_names block spans r h valid at = names_are_text block (take r.headers spans) h.fields at.fields valid.fields
