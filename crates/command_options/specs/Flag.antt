-- How words spell a flag: `--NAME`, without a value.
use Rattle.std.specs.Prelude.{ℕ, Bool, false, if◌then◌else◌, List, ◌++◌, Option, Some, None, codes}
use Rattle.std.specs.Str.{bytes_eq}
use Rattle.front_base.specs.Address.{◌>>=◌}
use Rattle.front_base.specs.Cut.{cut_at}
use Rattle.command_options.specs.Spelling.{behind_dashes}

abbrev pub begins_with : List ℕ → Option (List ℕ × List ℕ) → Bool
begins_with name None = false
begins_with name (Some parts) = bytes_eq parts.0 name

-- a word that gives the flag of that name a value
abbrev pub gives_value : List ℕ → List ℕ → Bool
gives_value flag word = begins_with flag (behind_dashes word >>= cut_at 61)

abbrev pub is_text : List ℕ → Option (List ℕ) → Bool
is_text name None = false
is_text name (Some text) = bytes_eq text name

-- the flag's own word
abbrev pub is_flag : List ℕ → List ℕ → Bool
is_flag flag word = is_text flag (behind_dashes word)

-- the flag's word stands for an option in one word that has a value
abbrev pub as_option : List ℕ → List ℕ → List ℕ
as_option flag word = if is_flag flag word then word ++ codes "=true" else word
