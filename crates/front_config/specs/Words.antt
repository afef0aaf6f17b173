-- The command lines of `explain`.
use Rattle.std.specs.Prelude.{ℕ, nat_lt, if◌then◌else◌, List, [], ◌∷◌, is_some, Result, Ok, Err, codes}
use Rattle.std.specs.Str.{bytes_eq}
use Rattle.json_value.specs.Results.{◌>>=◌}
use Rattle.command_options.specs.Options.{file_names, given_with, in_range, number_given, value_of}
use Rattle.command_options.specs.Spelling.{Named}
use Rattle.command_options.specs.declared.fault.WordsFault.{WordsFault}
use Rattle.command_options.specs.declared.fault.WordsFault.TheVariants.{Usage, Limits}
use Rattle.command_options.specs.declared.ranged.Ranged.TheVariants.{MaxEventSize, Moment}
use Rattle.front_base.specs.declared.moment.TheConstants.{MOMENT_END}
use Rattle.front_config.specs.declared.command.Command.{Command}
use Rattle.front_config.specs.declared.command.Command.TheVariants.{Explain}
use Rattle.front_config.specs.declared.command.ExplainWords.{ExplainWords}

-- the options of `explain`, of which the last is a flag
abbrev pub explain_names : List (List ℕ)
explain_names =
    codes "token-auth-file" ∷ codes "audit-policy-file" ∷ codes "apiservices" ∷ codes "endpoints" ∷ codes "max-event-size" ∷ codes "moment"
    ∷ codes "routes" ∷ []

-- a moment is below the year 9999 in UTC
abbrev pub moment_of : ℕ → Result ℕ WordsFault
moment_of micros = if nat_lt micros MOMENT_END then Ok micros else Err (Limits Moment micros)

-- what `explain` is told by its options; numbers are read before their ranges are looked at
unfoldable pub explain_by : List Named → Result ExplainWords WordsFault
explain_by given = do
  size ← number_given MaxEventSize given
  micros ← number_given Moment given
  max_event ← in_range MaxEventSize size
  moment ← moment_of micros
  Ok (record { files = file_names given; max_event = max_event; moment = moment; routes = is_some (value_of (codes "routes") given) })

unfoldable pub explain_of : List (List ℕ) → Result ExplainWords WordsFault
explain_of words = given_with (codes "routes") explain_names words >>= explain_by

abbrev pub explained : Result ExplainWords WordsFault → Result Command WordsFault
explained (Ok words) = Ok (Explain words)
explained (Err fault) = Err fault

-- the command that words ask for: the word of the command, and its options
unfoldable pub command_of : List (List ℕ) → Result Command WordsFault
command_of [] = Err Usage
command_of (word ∷ words) = if bytes_eq word (codes "explain") then explained (explain_of words) else Err Usage
