-- The command lines of `resources`.
use Rattle.std.specs.Prelude.{ℕ, if◌then◌else◌, List, [], ◌∷◌, Result, Ok, Err, codes}
use Rattle.std.specs.Str.{bytes_eq}
use Rattle.command_options.specs.Options.{file_names, given_of, in_range, number_given, value_of}
use Rattle.command_options.specs.Spelling.{Named}
use Rattle.command_options.specs.declared.fault.WordsFault.{WordsFault}
use Rattle.command_options.specs.declared.fault.WordsFault.TheVariants.{Usage}
use Rattle.command_options.specs.declared.ranged.Ranged.TheVariants.{RequestTimeout}
use Rattle.json_value.specs.Results.{◌>>=◌}
use Rattle.resources_command.specs.declared.words.ResourcesWords.{ResourcesWords}

-- how long a request may take, in its range
unfoldable pub timeout_in : List Named → Result ℕ WordsFault
timeout_in given = number_given RequestTimeout given >>= in_range RequestTimeout

-- what its options say
unfoldable pub words_by : List Named → Result ResourcesWords WordsFault
words_by given = do
  timeout ← timeout_in given
  Ok (record { names = file_names given; previous = value_of (codes "previous") given; request_timeout = timeout })

unfoldable pub words_of : List (List ℕ) → Result ResourcesWords WordsFault
words_of words =
    given_of (codes "apiservices" ∷ codes "endpoints" ∷ codes "previous" ∷ codes "request-timeout-ms" ∷ []) words >>= words_by

-- the word of the command, and its options
unfoldable pub resources_command : List (List ℕ) → Result ResourcesWords WordsFault
resources_command [] = Err Usage
resources_command (word ∷ words) = if bytes_eq word (codes "resources") then words_of words else Err Usage
