-- How words spell options: `--NAME=VALUE`, or `--NAME` and `VALUE`.
use Rattle.std.specs.Prelude.{ℕ, ◌==◌, ◌&&◌, not, nat_eq, nat_lt, Bool, false, if◌then◌else◌, List, [], ◌∷◌, length, drop, Option, Some, None, codes}
use Rattle.std.specs.List.{list_any, starts_with}
use Rattle.std.specs.Str.{bytes_eq}
use Rattle.front_base.specs.Address.{◌>>=◌}
use Rattle.front_base.specs.Cut.{cut_at}

-- an option: its name, and the value that it is given
abbrev pub Named : Type 0
Named = List ℕ × List ℕ

abbrev pub is_among : List (List ℕ) → List ℕ → Bool
is_among names name = list_any (λ own. bytes_eq own name) names

abbrev pub is_some_text : List ℕ → Bool
is_some_text text = nat_lt 0 (length text)

abbrev pub begins_with_dash : List ℕ → Bool
begins_with_dash [] = false
begins_with_dash (c ∷ rest) = c == 45

-- the text after two dashes
unfoldable pub behind_dashes : List ℕ → Option (List ℕ)
behind_dashes word = if starts_with nat_eq word (codes "--") then Some (drop 2 word) else None

-- the option of one word, `--NAME=VALUE`; the first `=` ends the name
unfoldable pub joined : List (List ℕ) → List ℕ → Option Named
joined names word = do
  text ← behind_dashes word
  parts ← cut_at 61 text
  if is_among names parts.0 && is_some_text parts.1 then Some (parts.0, parts.1) else None

-- the option of two words, `--NAME` and a value that doesn't begin with a dash
unfoldable pub apart : List (List ℕ) → List ℕ → List ℕ → Option Named
apart names word value = do
  name ← behind_dashes word
  if is_among names name && is_some_text value && not (begins_with_dash value) then Some (name, value) else None

abbrev pub has_equals_sign : List ℕ → Bool
has_equals_sign word = list_any (λ c. c == 61) word

abbrev pub with_option : Option Named → Option (List Named) → Option (List Named)
with_option None others = None
with_option (Some first) None = None
with_option (Some first) (Some others) = Some (first ∷ others)

-- the options that words spell, in their order, where they are options of these names and nothing else
unfoldable pub options_of : List (List ℕ) → List (List ℕ) → Option (List Named)
options_of names [] = Some []
options_of names (word ∷ []) = if has_equals_sign word then with_option (joined names word) (Some []) else None
options_of names (word ∷ next ∷ words) =
    if has_equals_sign word then with_option (joined names word) (options_of names (next ∷ words))
    else with_option (apart names word next) (options_of names words)
