-- What `clap` is told of options, and what it holds of those that it found.
use Rattle.std.specs.Prelude.{ℕ, ◌||◌, not, Bool, true, false, List, [], ◌∷◌, map, Option, Some, None, codes}
use Rattle.std.specs.Str.{bytes_eq}
use Rattle.clap.specs.Words.{App, Row, Rule, new_app, new_rule}
use Rattle.clap.specs.declared.builder.action.ArgAction.TheVariants.{Set}
use Rattle.clap.specs.declared.builder.value_parser.Reading.TheVariants.{AsWritten}
use Rattle.clap.specs.declared.parser.matches.ValueSource.TheVariants.{CommandLine}
use Rattle.front_base.specs.Address.{◌>>=◌}
use Rattle.front_base.specs.Cut.{cut_at}
use Rattle.command_options.specs.Spelling.{Named, behind_dashes, is_some_text}

-- an option that has one value
abbrev pub option_rule : List ℕ → Rule
option_rule name = record (new_rule name) { long = Some name; action = Some Set }

-- a command with no option: its words begin after its own, and no option of its own asks for help
abbrev pub bare : App
bare = record (new_app (codes "apiaggd")) {
  top = record (new_app (codes "apiaggd")).top { no_binary_name = true; disable_help_flag = true; disable_version_flag = true };
}

-- a command that has options of these names
abbrev pub app_with : List (List ℕ) → App
app_with names = record bare { top = record bare.top { rules = map option_rule names } }

-- ---- words that `clap` takes, and that are no option and no value

abbrev pub has_empty_end : Option (List ℕ × List ℕ) → Bool
has_empty_end None = false
has_empty_end (Some parts) = not (is_some_text parts.1)

-- an option in one word whose value is empty
abbrev pub has_empty_value : List ℕ → Bool
has_empty_value word = has_empty_end (behind_dashes word >>= cut_at 61)

-- nothing, one dash, two, or an option with an empty value
unfoldable pub is_doubtful : List ℕ → Bool
is_doubtful word = not (is_some_text word) || (bytes_eq word (codes "-") || (bytes_eq word (codes "--") || has_empty_value word))

-- ---- what is found

-- what is held of an option that was given
abbrev pub row_for : Named → Row
row_for given = record { id = given.0; values = given.1 ∷ []; count = None; source = Some CommandLine; reading = AsWritten }

abbrev first_or_none : List (List ℕ) → List ℕ
first_or_none [] = []
first_or_none (value ∷ values) = value

-- the options that rows hold, in the order of their first words
abbrev pub given_in : List Row → List Named
given_in [] = []
given_in (row ∷ rows) = (row.id, first_or_none row.values) ∷ given_in rows
