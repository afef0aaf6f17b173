-- Whether a query asks for a watch (Kubernetes, "API concepts": efficient detection of changes).
use Rattle.std.specs.Prelude.{ℕ, Bool, false, not, ◌||◌, List, [], ◌∷◌, Option, Some, None, codes, bytes_eq, if◌then◌else◌}
use Rattle.std.specs.Str.{str_eq_ignore_ascii_case}
use Rattle.std.specs.Str.Lossy.{utf8_lossy}
use Rattle.form_urlencoded.specs.Form.{raw_pairs, decode}

-- the text of a name or of a value in a query
abbrev pub text_of : List ℕ → List ℕ
text_of bytes = utf8_lossy (decode bytes)

-- the value of the first pair of that name
unfoldable pub first_value : List ℕ → List (List ℕ × List ℕ) → Option (List ℕ)
first_value name [] = None
first_value name (pair ∷ rest) =
    if bytes_eq (text_of pair.0) name then Some (text_of pair.1) else first_value name rest

-- a value other than `false` and `0`
abbrev pub is_yes : List ℕ → Bool
is_yes value =
    not (str_eq_ignore_ascii_case value (codes "false") || str_eq_ignore_ascii_case value (codes "0"))

-- there is a value, and it says yes
abbrev pub says_yes : Option (List ℕ) → Bool
says_yes None = false
says_yes (Some value) = is_yes value

-- the first pair named `watch` says yes
abbrev pub asks_watch : List ℕ → Bool
asks_watch query = says_yes (first_value (codes "watch") (raw_pairs query))
