-- One line that stands at the front of other bytes.
use Rattle.std.proofs.Common.{◌≡◌, ℕ, ◌+◌, ◌<◌, ◌≤◌, true, List, [], ◌∷◌, ◌++◌, length, take, drop, Ok, refl, ap, sym, subst, ◌∙◌, append_assoc, arith, length-append}
use Rattle.std.proofs.lemmas.List.{drop-drop, take_at, take-append-drop}
use Rattle.group_resources.specs.Lines.{IsLine, document, has_version, line_text}
use Rattle.group_resources.specs.Reading.{Stands, StartsWith, Tells}
use Rattle.group_resources.specs.declared.line.MergedLine.{MergedLine}
use Rattle.group_resources.proofs.DocumentLemmas.{LineLaw, document_more, not_empty, same_line}

not_short : (l : List ℕ) → (l ≡ [] → ⊥) → 0 < length l
not_short [] full = absurd (full refl)
not_short (b ∷ l) full = omega arith

some_byte : (line : MergedLine) → 0 < length (line_text line)
some_byte line = not_short (line_text line) (λ e. not_empty line [] (ap (λ (l : List ℕ). l ++ []) e))

pub stands : (bytes text : List ℕ) (line : MergedLine) (size : ℕ) → Tells (IsLine line) (Ok true) → text ≡ line_text line → size ≡ length text
    → size ≤ length bytes → take size bytes ≡ text → Stands bytes line size
stands bytes text line size is t s within front = record {
  is = is;
  starts = sym (take-append-drop size bytes) ∙ ap (λ (l : List ℕ). l ++ drop size bytes) (front ∙ t);
  within = within;
  some = subst (λ (n : ℕ). 0 < n) (sym (s ∙ ap length t)) (some_byte line);
}

-- a text that stands first is found
pub starts_fits : (bytes text after : List ℕ) (line : MergedLine) → text ≡ line_text line → StartsWith bytes line after → length text ≤ length bytes
starts_fits bytes text after line t starts =
    let n : length bytes ≡ length (line_text line ++ after) = ap length starts in
    let m : length text ≡ length (line_text line) = ap length t in
    omega (arith, n, m, length-append (line_text line) after)

pub starts_front : (bytes text after : List ℕ) (line : MergedLine) (size : ℕ) → text ≡ line_text line → size ≡ length text → StartsWith bytes line after
    → take size bytes ≡ text
starts_front bytes text after line size t s starts =
    ap (take size) (starts ∙ ap (λ (l : List ℕ). l ++ after) (sym t)) ∙ take_at text after size (sym s)

-- only one line stands first
pub same_version : LineLaw → (bytes : List ℕ) (own : MergedLine) (size : ℕ) (line : MergedLine) (after : List ℕ) (lines : List MergedLine)
    → Stands bytes own size → has_version own.group_version lines ≡ true → IsLine line → StartsWith bytes line after
    → has_version line.group_version lines ≡ true
same_version law bytes own size line after lines s h is starts =
    subst (λ (l : MergedLine). has_version l.group_version lines ≡ true)
    (same_line law own line (drop size bytes) after s.is is (sym s.starts ∙ starts)) h

-- one line more was read
pub split_more : (bytes : List ℕ) (lines : List MergedLine) (line : MergedLine) (at size : ℕ) → bytes ≡ document lines ++ drop at bytes
    → Stands (drop at bytes) line size → bytes ≡ document (lines ++ line ∷ []) ++ drop (at + size) bytes
split_more bytes lines line at size e s =
    let rest : drop size (drop at bytes) ≡ drop (at + size) bytes = drop-drop size at bytes in
    e
    ∙ ap (λ (l : List ℕ). document lines ++ l) (s.starts ∙ ap (λ (l : List ℕ). line_text line ++ l) rest)
    ∙ sym (append_assoc (document lines) (line_text line) (drop (at + size) bytes))
    ∙ ap (λ (l : List ℕ). l ++ drop (at + size) bytes) (sym (document_more lines line))
