-- The token in a file.
use Rattle.std.proofs.Common.{◌≡◌, ℕ, ◌+◌, List, [], ◌∷◌, Some, None, Bool, true, false, IsUtf8, drop, take, refl, ap, sym, subst, ◌∙◌, arith}
use Rattle.std.specs.Prelude.{if◌then◌else◌}
use Rattle.std.specs.Str.{is_utf8}
use Rattle.std.proofs.lemmas.Str.{IsUtf8-from_is_utf8, is_utf8-from_IsUtf8}
use Rattle.probe_command.specs.Token.{is_line_end, text_in, token_in, token_size}
use Rattle.probe_command.specs.Probe.{is_token_byte}

pub no_text : (bytes : List ℕ) → ¬ (IsUtf8 bytes) → text_in bytes ≡ None
no_text bytes refused = by_cases (is_utf8 bytes) refl
  where
    by_cases : (b : Bool) → is_utf8 bytes ≡ b → (if b then Some bytes else None) ≡ None
    by_cases true e = absurd (refused (IsUtf8-from_is_utf8 bytes e))
    by_cases false e = refl

pub text_is : (bytes : List ℕ) → IsUtf8 bytes → text_in bytes ≡ Some bytes
text_is bytes utf8 = rw (is_utf8-from_IsUtf8 bytes utf8) refl

size_by : (b : ℕ) (bytes : List ℕ) → is_token_byte b ≡ true → token_size (b ∷ bytes) ≡ token_size bytes + 1
size_by b bytes e = rw e refl

none_by : (b : ℕ) (bytes : List ℕ) → is_token_byte b ≡ false → token_size (b ∷ bytes) ≡ 0
none_by b bytes e = rw e refl

pub one_more : (all : List ℕ) (at b : ℕ) → drop at all ≡ b ∷ drop (at + 1) all → is_token_byte b ≡ true
    → token_size all ≡ at + token_size (drop at all) → token_size all ≡ (at + 1) + token_size (drop (at + 1) all)
one_more all at b split is h =
    let e : token_size (drop at all) ≡ token_size (drop (at + 1) all) + 1 = ap token_size split ∙ size_by b (drop (at + 1) all) is in
    omega (arith, h, e)

pub ends_at : (all : List ℕ) (at b : ℕ) → drop at all ≡ b ∷ drop (at + 1) all → is_token_byte b ≡ false
    → token_size all ≡ at + token_size (drop at all) → at ≡ token_size all
ends_at all at b split is h =
    let e : token_size (drop at all) ≡ 0 = ap token_size split ∙ none_by b (drop (at + 1) all) is in
    omega (arith, h, e)

pub ends_past : (all : List ℕ) (at n : ℕ) → drop at all ≡ [] → at ≡ n → token_size all ≡ at + token_size (drop at all) → n ≡ token_size all
ends_past all at n none same h =
    let e : token_size (drop at all) ≡ 0 = ap token_size none in
    omega (arith, h, e, same)

pub no_token : (bytes : List ℕ) (n : ℕ) → n ≡ token_size bytes → is_line_end (drop n bytes) ≡ false → token_in bytes ≡ None
no_token bytes n e t =
    let own : is_line_end (drop (token_size bytes) bytes) ≡ false = subst (λ (m : ℕ). is_line_end (drop m bytes) ≡ false) e t in
    rw own refl

pub text_of_token : (bytes : List ℕ) (n : ℕ) → n ≡ token_size bytes → is_line_end (drop n bytes) ≡ true → token_in bytes ≡ text_in (take n bytes)
text_of_token bytes n e t =
    let own : is_line_end (drop (token_size bytes) bytes) ≡ true = subst (λ (m : ℕ). is_line_end (drop m bytes) ≡ true) e t in
    (rw own refl) ∙ ap (λ (m : ℕ). text_in (take m bytes)) (sym e)
