-- The fields of a record as text, and the groups of a field.
use Rattle.std.proofs.Common.{◌≡◌, ℕ, List, Bool, true, false, Some, None, refl, sym, ap, ◌∙◌, IsUtf8}
use Rattle.std.specs.Prelude.{option_and_then}
use Rattle.std.specs.Str.{is_utf8}
use Rattle.std.proofs.lemmas.Str.{IsUtf8-from_is_utf8, is_utf8-from_IsUtf8}
use Rattle.csv.specs.Records.{field_at}
use Rattle.token_users.specs.Act.{name_in, plain_name}
use Rattle.token_users.specs.File.{if_text, text_at}

if_text_is : (f : List ℕ) → IsUtf8 f → if_text f ≡ Some f
if_text_is f u = rw (is_utf8-from_IsUtf8 f u) refl

no_text : (f : List ℕ) → ¬ (IsUtf8 f) → is_utf8 f ≡ false
no_text f bad = by_cases (is_utf8 f) refl
  where
    by_cases : (b : Bool) → is_utf8 f ≡ b → b ≡ false
    by_cases true e = absurd (bad (IsUtf8-from_is_utf8 f e))
    by_cases false e = refl

if_text_not : (f : List ℕ) → ¬ (IsUtf8 f) → if_text f ≡ None
if_text_not f bad = rw (no_text f bad) refl

pub text_found : (fields : List (List ℕ)) (i : ℕ) (f t : List ℕ) → Some f ≡ field_at fields i → t ≡ f → IsUtf8 f → Some t ≡ text_at fields i
text_found fields i f t e same u = ap (λ x. Some x) same ∙ sym (if_text_is f u) ∙ ap (option_and_then if_text) e

pub text_refused : (fields : List (List ℕ)) (i : ℕ) (f : List ℕ) → Some f ≡ field_at fields i → ¬ (IsUtf8 f) → None ≡ text_at fields i
text_refused fields i f e bad = sym (if_text_not f bad) ∙ ap (option_and_then if_text) e

-- a value as a name
pub name_found : (value text : List ℕ) → text ≡ value → IsUtf8 value → plain_name text ≡ name_in value
name_found value text same u = rw (same, is_utf8-from_IsUtf8 value u) refl

pub name_refused : (value : List ℕ) → ¬ (IsUtf8 value) → None ≡ name_in value
name_refused value bad = rw (no_text value bad) refl
