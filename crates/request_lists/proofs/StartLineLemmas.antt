-- Whether a text begins with a request line, or with a status line.
use Rattle.std.proofs.Common.{◌≡◌, ℕ, zero, suc, ◌⊎◌, inl, inr, true, false, List, [], ◌∷◌, Option, Some, None, refl, sym, ap, subst, ◌∙◌, arith}
use Rattle.std.proofs.lemmas.Bool.{false≢true}
use Rattle.std.proofs.lemmas.List.Elements.{All-nil}
use Rattle.std.proofs.lemmas.Str.{IsUtf8-from_is_utf8, is_utf8-from_IsUtf8}
use Rattle.std.specs.Char.{is_ascii_digit}
use Rattle.std.specs.Str.{is_utf8}
use Rattle.httparse.specs.Grammar.{is_token_byte, is_uri_byte, is_value_byte, LineEnd, print_version}
use Rattle.httparse.specs.Pieces.{Begins, Then, Bytes, Blank, Newline, Word, Method, Target, Version, Digit, Code, Text, Reason, RequestStart, ResponseStart}
use Rattle.httparse.proofs.PieceLemmas.{Blank_deterministic, Word_deterministic, Method_deterministic, Target_deterministic, Version_deterministic, Bytes_deterministic, Digit_deterministic, Code_deterministic, space_ends_token}
use Rattle.request_lists.proofs.PieceLemmas.{Decided, Decides, then_decides, blank_decides, newline_decides, word_decides, bytes_decides, either}
use Rattle.request_lists.proofs.SectionLemmas.{text_decides}

-- ---- the request line

pub method_decides : Decides Method
method_decides = word_decides is_token_byte 32 space_ends_token

target_by : (text word rest : List ℕ) → Word is_uri_byte 32 word text rest → (is_utf8 word ≡ true) ⊎ (is_utf8 word ≡ false) → Decided Target text
target_by text word rest w (inl e) = inl (word, rest, (w, IsUtf8-from_is_utf8 word e))
target_by text word rest w (inr e) =
    inr (λ t.
    let same = ((Word_deterministic is_uri_byte 32 refl).unique t.0 word text t.1 rest t.2.0 w).0 in
    false≢true (sym e ∙ sym (ap is_utf8 same) ∙ is_utf8-from_IsUtf8 t.0 t.2.1))

pub target_decides : Decides Target
target_decides text = by_word (word_decides is_uri_byte 32 refl text)
  where
    by_word : Decided (Word is_uri_byte 32) text → Decided Target text
    by_word (inl w) = target_by text w.0 w.1 w.2 (either (is_utf8 w.0))
    by_word (inr none) = inr (λ t. none (t.0, t.1, t.2.0))

version_by : (text : List ℕ) → Decided (Bytes (print_version 0)) text → Decided (Bytes (print_version 1)) text → Decided Version text
version_by text (inl t) one = inl (0, t.1, (omega arith, t.2))
version_by text (inr none) (inl t) = inl (1, t.1, (omega arith, t.2))
version_by text (inr none) (inr other) = inr (λ t. no_version t.0 t.1 t.2)
  where
    no_version : (minor : ℕ) (rest : List ℕ) → Version minor text rest → ⊥
    no_version zero rest v = none (tt, rest, v.1)
    no_version (suc zero) rest v = other (tt, rest, v.1)
    no_version (suc (suc n)) rest v = absurd (omega (arith, v.0))

pub version_decides : Decides Version
version_decides text = version_by text (bytes_decides (print_version 0) text) (bytes_decides (print_version 1) text)

pub request_line_decides : Decides RequestStart
request_line_decides =
    then_decides Blank (Then Method (Then Target (Then Version Newline))) Blank_deterministic blank_decides
    (then_decides Method (Then Target (Then Version Newline)) Method_deterministic method_decides
    (then_decides Target (Then Version Newline) Target_deterministic target_decides
    (then_decides Version Newline Version_deterministic version_decides newline_decides)))

-- ---- the three digits

digit_by : (b : ℕ) (text : List ℕ) → (is_ascii_digit b ≡ true) ⊎ (is_ascii_digit b ≡ false) → Decided Digit (b ∷ text)
digit_by b text (inl pass) = inl (b, text, (pass, refl))
digit_by b text (inr fail) = inr (λ t. no_digit t.0 t.1 t.2)
  where
    no_digit : (d : ℕ) (rest : List ℕ) → Digit d (b ∷ text) rest → ⊥
    no_digit d rest t = let e = t.1 in let same : b ≡ d = cc in false≢true (sym fail ∙ ap is_ascii_digit same ∙ t.0)

digit_decides : Decides Digit
digit_decides [] = inr (λ t. let e = t.2.1 in absurd (cc e))
digit_decides (b ∷ text) = digit_by b text (either (is_ascii_digit b))

code_decides : Decides Code
code_decides =
    then_decides Digit (Then Digit Digit) Digit_deterministic digit_decides (then_decides Digit Digit Digit_deterministic digit_decides digit_decides)

-- ---- the reason

no_reason : (b : ℕ) (text : List ℕ) → ¬ (Begins Newline (b ∷ text)) → ((b ≡ 32) → ¬ (Begins Text text)) → (phrase : Option (List ℕ)) (end : LineEnd) (rest : List ℕ)
    → Reason (phrase, end) (b ∷ text) rest → ⊥
no_reason b text no_end no_text None end rest t = no_end (end, rest, t.1)
no_reason b text no_end no_text (Some phrase) end rest t =
    let e = t.1 in no_text (cc) ((phrase, end), rest, (t.0, cc))

reason_after : (text : List ℕ) → Begins Text text → Begins Reason (32 ∷ text)
reason_after text t = ((Some t.0.0, t.0.1), t.1, (t.2.0, ap (λ (l : List ℕ). 32 ∷ l) t.2.1))

reason_at_end : (text : List ℕ) → Begins Newline text → Begins Reason text
reason_at_end text n = ((None, n.0), n.1, (All-nil (λ v. is_value_byte v ≡ true), n.2))

no_reason_left : ¬ (Begins Newline []) → (phrase : Option (List ℕ)) (end : LineEnd) (rest : List ℕ) → Reason (phrase, end) [] rest → ⊥
no_reason_left none None end rest t = none (end, rest, t.1)
no_reason_left none (Some phrase) end rest t = let e = t.1 in absurd (cc e)

reason_by : (b : ℕ) (text : List ℕ) → ¬ (Begins Newline (b ∷ text)) → Decided (Bytes (32 ∷ [])) (b ∷ text) → Decided Text text → Decided Reason (b ∷ text)
reason_by b text no_end (inl s) (inl t) =
    let e = s.2 in let same : b ≡ 32 = cc in
    inl (subst (λ (x : ℕ). Begins Reason (x ∷ text)) (sym same) (reason_after text t))
reason_by b text no_end (inl s) (inr none) = inr (λ t. no_reason b text no_end (λ e. none) t.0.0 t.0.1 t.1 t.2)
reason_by b text no_end (inr other) t =
    inr (λ r. no_reason b text no_end (λ e. absurd (other (tt, text, ap (λ (x : ℕ). x ∷ text) e))) r.0.0 r.0.1 r.1 r.2)

reason_decides : Decides Reason
reason_decides [] = by_end (newline_decides [])
  where
    by_end : Decided Newline [] → Decided Reason []
    by_end (inl n) = inl (reason_at_end [] n)
    by_end (inr none) = inr (λ t. no_reason_left none t.0.0 t.0.1 t.1 t.2)
reason_decides (b ∷ text) = by_end (newline_decides (b ∷ text))
  where
    by_end : Decided Newline (b ∷ text) → Decided Reason (b ∷ text)
    by_end (inl n) = inl (reason_at_end (b ∷ text) n)
    by_end (inr none) = reason_by b text none (bytes_decides (32 ∷ []) (b ∷ text)) (text_decides text)

pub status_line_decides : Decides ResponseStart
status_line_decides =
    then_decides Blank (Then Version (Then (Bytes (32 ∷ [])) (Then Code Reason))) Blank_deterministic blank_decides
    (then_decides Version (Then (Bytes (32 ∷ [])) (Then Code Reason)) Version_deterministic version_decides
    (then_decides (Bytes (32 ∷ [])) (Then Code Reason) (Bytes_deterministic (32 ∷ [])) (bytes_decides (32 ∷ []))
    (then_decides Code Reason Code_deterministic code_decides reason_decides)))
