-- The value that bytes are, by whether they are UTF-8.
use Rattle.std.proofs.Common.{◌≡◌, ℕ, List, None, refl, Bool, true, false, IsUtf8}
use Rattle.std.specs.Prelude.{if◌then◌else◌}
use Rattle.std.specs.Str.{is_utf8}
use Rattle.std.proofs.lemmas.Str.{IsUtf8-from_is_utf8, is_utf8-from_IsUtf8}
use Rattle.serde_json.specs.Read.{read}
use Rattle.json_value.specs.Read.{value_of}

-- the bytes are no UTF-8
pub not_text : (bytes : List ℕ) → ¬ (IsUtf8 bytes) → value_of bytes ≡ None
unfolding value_of
not_text bytes refused = by_cases (is_utf8 bytes) refl
  where
    by_cases : (b : Bool) → is_utf8 bytes ≡ b → (if b then read bytes else None) ≡ None
    by_cases true e = absurd (refused (IsUtf8-from_is_utf8 bytes e))
    by_cases false e = refl

pub text_is : (bytes : List ℕ) → IsUtf8 bytes → value_of bytes ≡ read bytes
unfolding value_of
text_is bytes utf8 = rw (is_utf8-from_IsUtf8 bytes utf8) refl
