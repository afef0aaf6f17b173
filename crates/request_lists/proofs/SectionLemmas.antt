-- Whether a text begins with the fields of a head and the empty line after them.
use Rattle.std.proofs.Common.{◌≡◌, ℕ, zero, suc, ◌+◌, ◌<◌, ◌⊎◌, inl, inr, true, false, List, [], ◌∷◌, ◌++◌, length, sym, ap, ◌∙◌, arith, append_assoc, append-nil, length-append}
use Rattle.std.proofs.lemmas.Bool.{false≢true}
use Rattle.std.proofs.lemmas.List.Elements.{All-head, All-tail, All-cons, All-nil}
use Rattle.std.specs.List.{flat_map}
use Rattle.httparse.specs.Grammar.{is_token_byte, is_value_byte, LineEnd, print_end, Field, print_field, print_section, IsField}
use Rattle.httparse.specs.Pieces.{Begins, Then, Newline, Word, Text, FieldLine, Section, BeginsLine}
use Rattle.httparse.proofs.PieceLemmas.{Name_deterministic, FieldLine_parts, print_field-append, Section_line, Section_skip, colon_ends_token}
use Rattle.request_lists.proofs.PieceLemmas.{Decided, Decides, then_decides, word_decides, newline_decides, either}

-- ---- the bytes up to the end of a line

text_at_end : (text : List ℕ) (end : LineEnd) (rest : List ℕ) → text ≡ print_end end ++ rest → Begins Text text
text_at_end text end rest e = (([], end), rest, (All-nil (λ v. is_value_byte v ≡ true), e))

text_tail : (b : ℕ) (text value : List ℕ) (end : LineEnd) (rest : List ℕ) → ¬ (Begins Newline (b ∷ text)) → Text (value, end) (b ∷ text) rest
    → (is_value_byte b ≡ true) × Begins Text text
text_tail b text [] end rest none t = absurd (none (end, rest, t.1))
text_tail b text (v ∷ value) end rest none t =
    let e = t.1 in
    let same : v ≡ b = cc in (
      ap is_value_byte (sym same) ∙ All-head (λ v. is_value_byte v ≡ true) v value t.0,
      ((value, end), rest, (All-tail (λ v. is_value_byte v ≡ true) v value t.0, cc)),
    )

text_by : (b : ℕ) (text : List ℕ) → ¬ (Begins Newline (b ∷ text)) → (is_value_byte b ≡ true) ⊎ (is_value_byte b ≡ false) → Decided Text text
    → Decided Text (b ∷ text)
text_by b text none (inl pass) (inl t) =
    inl ((b ∷ t.0.0, t.0.1), t.1, (All-cons (λ v. is_value_byte v ≡ true) b t.0.0 pass t.2.0, ap (λ (l : List ℕ). b ∷ l) t.2.1))
text_by b text none (inl pass) (inr no_text) = inr (λ t. no_text (text_tail b text t.0.0 t.0.1 t.1 none t.2).1)
text_by b text none (inr fail) rest = inr (λ t. false≢true (sym fail ∙ (text_tail b text t.0.0 t.0.1 t.1 none t.2).0))

no_text : (value : List ℕ) (end : LineEnd) (rest : List ℕ) → ¬ (Begins Newline []) → Text (value, end) [] rest → ⊥
no_text [] end rest none t = none (end, rest, t.1)
no_text (v ∷ value) end rest none t = let e = t.1 in absurd (cc e)

pub text_decides : Decides Text
text_decides [] = by_end (newline_decides [])
  where
    by_end : Decided Newline [] → Decided Text []
    by_end (inl n) = inl (text_at_end [] n.0 n.1 n.2)
    by_end (inr none) = inr (λ t. no_text t.0.0 t.0.1 t.1 none t.2)
text_decides (b ∷ text) = by_end (newline_decides (b ∷ text)) (text_decides text)
  where
    by_end : Decided Newline (b ∷ text) → Decided Text text → Decided Text (b ∷ text)
    by_end (inl n) rest = inl (text_at_end (b ∷ text) n.0 n.1 n.2)
    by_end (inr none) rest = text_by b text none (either (is_value_byte b)) rest

-- ---- field lines

line_from : (text name raw : List ℕ) (end : LineEnd) (middle rest : List ℕ) → Word is_token_byte 58 name text middle → Text (raw, end) middle rest
    → Begins FieldLine text
line_from text name raw end middle rest w t =
    let f : Field = record { name = name; raw = raw; end = end } in (
      f,
      rest,
      (
        record { name = (w.0, w.1); raw = t.0 },
        w.2 ∙ ap (λ (l : List ℕ). name ++ 58 ∷ l) t.1 ∙ sym (print_field-append f rest),
      ),
    )

line_by : (text : List ℕ) → Decided (Then (Word is_token_byte 58) Text) text → Decided FieldLine text
line_by text (inl t) = inl (line_from text t.0.0 t.0.1.0 t.0.1.1 t.2.0 t.1 t.2.1 t.2.2)
line_by text (inr none) = inr (λ t. none ((t.0.name, (t.0.raw, t.0.end)), t.1, FieldLine_parts t.0 text t.1 t.2))

line_decides : Decides FieldLine
line_decides text =
    line_by text (then_decides (Word is_token_byte 58) Text Name_deterministic (word_decides is_token_byte 58 colon_ends_token) text_decides text)

line_shorter : (f : Field) (text rest : List ℕ) → FieldLine f text rest → length rest < length text
line_shorter f text rest x =
    let e = ap length (x.1 ∙ print_field-append f rest) in
    let a = length-append f.name (58 ∷ (f.raw ++ (print_end f.end ++ rest))) in
    let b = length-append f.raw (print_end f.end ++ rest) in
    let c = length-append (print_end f.end) rest in
    omega (arith, e, a, b, c)

-- ---- sections

one_more_field : (f : Field) (fs : List Field) (last : LineEnd) (text middle rest : List ℕ) → FieldLine f text middle → Section (fs, last) middle rest
    → Section (f ∷ fs, last) text rest
one_more_field f fs last text middle rest x y = (
  All-cons IsField f fs x.0 y.0,
  x.1 ∙ ap (λ (l : List ℕ). print_field f ++ l) y.1 ∙ sym (append_assoc (print_field f) (print_section fs last) rest)
      ∙ ap (λ (l : List ℕ). l ++ rest) (sym (append_assoc (print_field f) (flat_map print_field fs) (print_end last))),
)

less_one_field : (f : Field) (text middle : List ℕ) → FieldLine f text middle → Begins Section text → Begins Section middle
less_one_field f text middle x s =
    let one = All-cons IsField f [] x.0 (All-nil IsField) in
    let same : text ≡ (print_field f ++ []) ++ middle = x.1 ∙ ap (λ (l : List ℕ). l ++ middle) (sym (append-nil (print_field f))) in
    let skipped = Section_skip (f ∷ []) s.0.0 s.0.1 text middle s.1 (one, same) s.2 in
    ((skipped.0, s.0.1), s.1, skipped.2)

section_in : (fuel : ℕ) (text : List ℕ) → length text < fuel → Decided Section text
section_in zero text h = absurd (omega (arith, h))
section_in (suc fuel) text h = by_end (newline_decides text) (line_decides text) (λ rest low. section_in fuel rest low)
  where
    no_section : ¬ (Begins Newline text) → ¬ (Begins FieldLine text) → BeginsLine text → ⊥
    no_section no_end no_line (inl e) = no_end e
    no_section no_end no_line (inr l) = no_line l

    after_line : (f : Field) (middle : List ℕ) → FieldLine f text middle → Decided Section middle → Decided Section text
    after_line f middle x (inl s) = inl ((f ∷ s.0.0, s.0.1), s.1, one_more_field f s.0.0 s.0.1 text middle s.1 x s.2)
    after_line f middle x (inr none) = inr (λ s. none (less_one_field f text middle x s))

    by_end : Decided Newline text → Decided FieldLine text → ((rest : List ℕ) → length rest < fuel → Decided Section rest) → Decided Section text
    by_end (inl n) line next = inl (([], n.0), n.1, (All-nil IsField, n.2))
    by_end (inr no_end) (inl l) next =
        let low = line_shorter l.0 text l.1 l.2 in after_line l.0 l.1 l.2 (next l.1 (omega (arith, h, low)))
    by_end (inr no_end) (inr no_line) next = inr (λ s. no_section no_end no_line (Section_line s.0 text s.1 s.2))

pub section_decides : Decides Section
section_decides text = section_in (length text + 1) text (omega arith)
