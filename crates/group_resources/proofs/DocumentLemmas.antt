-- A document has one list of lines.
use Rattle.std.proofs.Common.{◌≡◌, ◌≢◌, ℕ, true, false, List, [], ◌∷◌, ◌++◌, Some, Result, Ok, Err, refl, ap, sym, ◌∙◌, append_assoc}
use Rattle.std.specs.List.{AllByRecursion}
use Rattle.std.proofs.lemmas.List.{append_cancel_left, append-nil}
use Rattle.group_resources.specs.Lines.{AreLines, AreNew, IsDocument, IsLine, document, has_version, line_of, line_text}
use Rattle.group_resources.specs.Reading.{Answers, AreBack, StartsWith, line_at}
use Rattle.group_resources.specs.declared.line.MergedLine.{MergedLine}
use Rattle.group_resources.specs.declared.merged.MergedFault.{MergedFault}
use Rattle.group_resources.specs.declared.merged.MergedFault.TheVariants.{BadLine, NoMemory}

-- the law of lines
abbrev pub LineLaw : Type 0
LineLaw = (line : MergedLine) (after : List ℕ) → IsLine line → line_at (line_text line ++ after) ≡ Some line

-- a line has a byte
pub not_empty : (line : MergedLine) (after : List ℕ) → line_text line ++ after ≢ []
unfolding line_of
not_empty line after e = absurd (cc e)

pub same_line : LineLaw → (a b : MergedLine) (x y : List ℕ) → IsLine a → IsLine b → line_text a ++ x ≡ line_text b ++ y → a ≡ b
same_line law a b x y ha hb e =
    let p = law a x ha in
    let q = law b y hb in
    let r = ap line_at e in
    cc

same_rest : LineLaw → (a b : MergedLine) (x y : List ℕ) → IsLine a → IsLine b → line_text a ++ x ≡ line_text b ++ y → x ≡ y
same_rest law a b x y ha hb e =
    let s : a ≡ b = same_line law a b x y ha hb e in
    append_cancel_left (line_text b) x y (ap (λ (l : MergedLine). line_text l ++ x) (sym s) ∙ e)

pub one_document : LineLaw → (a b : List MergedLine) → AllByRecursion IsLine a → AllByRecursion IsLine b → document a ≡ document b → a ≡ b
one_document law [] [] ha hb e = refl
one_document law [] (y ∷ ys) ha hb e = absurd (not_empty y (document ys) (sym e))
one_document law (x ∷ xs) [] ha hb e = absurd (not_empty x (document xs) e)
one_document law (x ∷ xs) (y ∷ ys) ha hb e =
    let s : x ≡ y = same_line law x y (document xs) (document ys) ha.0 hb.0 e in
    let r : xs ≡ ys = one_document law xs ys ha.1 hb.1 (same_rest law x y (document xs) (document ys) ha.0 hb.0 e) in
    cc

-- no line of a document is bad
not_bad : LineLaw → (seen lines good : List MergedLine) (rest : List ℕ) → AllByRecursion IsLine lines → AreNew seen lines → AllByRecursion IsLine good
    → document good ++ rest ≡ document lines → rest ≢ []
    → ((line : MergedLine) (after : List ℕ) → IsLine line → StartsWith rest line after → has_version line.group_version (seen ++ good) ≡ true) → ⊥
not_bad law seen [] [] rest each new good e more none = more e
not_bad law seen (l ∷ ls) [] rest each new good e more none =
    let h = none l (document ls) each.0 e in
    let k : seen ++ [] ≡ seen = append-nil seen in
    let own : has_version l.group_version seen ≡ true = ap (λ (s : List MergedLine). has_version l.group_version s) (sym k) ∙ h in
    let not = new.0 in
    absurd (cc)
not_bad law seen [] (g ∷ gs) rest each new good e more none =
    not_empty g (document gs ++ rest) (sym (append_assoc (line_text g) (document gs) rest) ∙ e)
not_bad law seen (l ∷ ls) (g ∷ gs) rest each new good e more none =
    let whole : line_text g ++ (document gs ++ rest) ≡ line_text l ++ document ls = sym (append_assoc (line_text g) (document gs) rest) ∙ e in
    let s : g ≡ l = same_line law g l (document gs ++ rest) (document ls) good.0 each.0 whole in
    let r = same_rest law g l (document gs ++ rest) (document ls) good.0 each.0 whole in
    let moved : (seen ++ l ∷ []) ++ gs ≡ seen ++ g ∷ gs = append_assoc seen (l ∷ []) gs ∙ ap (λ (x : MergedLine). seen ++ x ∷ gs) (sym s) in
    not_bad law (seen ++ l ∷ []) ls gs rest each.1 new.1 good.1 r more
    (λ line after is starts. ap (λ (before : List MergedLine). has_version line.group_version before) moved ∙ none line after is starts)

pub read_back : LineLaw → (bytes : List ℕ) (lines : List MergedLine) (answer : Result (List MergedLine) MergedFault) → IsDocument bytes lines
    → Answers bytes answer → AreBack lines answer
read_back law bytes lines (Ok read) d h = one_document law read lines h.lines_are.each d.lines_are.each (sym h.text ∙ d.text)
read_back law bytes lines (Err (BadLine at)) d h =
    not_bad law [] lines h.lines h.rest d.lines_are.each d.lines_are.distinct h.good.each (sym h.split ∙ d.text) h.more h.none
read_back law bytes lines (Err NoMemory) d h = tt

-- ---- one line more

new_more : (seen lines : List MergedLine) (line : MergedLine) → AreNew seen lines → has_version line.group_version (seen ++ lines) ≡ false
    → AreNew seen (lines ++ line ∷ [])
new_more seen [] line new h = (ap (λ (before : List MergedLine). has_version line.group_version before) (sym (append-nil seen)) ∙ h, tt)
new_more seen (l ∷ ls) line new h =
    (new.0, new_more (seen ++ l ∷ []) ls line new.1 (ap (λ (before : List MergedLine). has_version line.group_version before) (append_assoc seen (l ∷ []) ls) ∙ h))

each_more : (lines : List MergedLine) (line : MergedLine) → AllByRecursion IsLine lines → IsLine line → AllByRecursion IsLine (lines ++ line ∷ [])
each_more [] line each h = (h, tt)
each_more (l ∷ ls) line each h = (each.0, each_more ls line each.1 h)

pub lines_more : (lines : List MergedLine) (line : MergedLine) → AreLines lines → IsLine line → has_version line.group_version lines ≡ false
    → AreLines (lines ++ line ∷ [])
lines_more lines line are is fresh = record {
  each = each_more lines line are.each is;
  distinct = new_more [] lines line are.distinct fresh;
}

pub document_more : (lines : List MergedLine) (line : MergedLine) → document (lines ++ line ∷ []) ≡ document lines ++ line_text line
document_more [] line = append-nil (line_text line)
document_more (l ∷ ls) line = ap (λ (rest : List ℕ). line_text l ++ rest) (document_more ls line) ∙ sym (append_assoc (line_text l) (document ls) (line_text line))
