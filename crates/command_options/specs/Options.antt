-- The options of a command line by their names, and what their values say.
use Rattle.std.specs.Prelude.{ℕ, ◌&&◌, ◌||◌, not, nat_lt, Bool, true, false, if◌then◌else◌, List, [], ◌∷◌, length, map, Option, Some, None, Result, Ok, Err, codes}
use Rattle.std.specs.List.{list_all, list_any}
use Rattle.std.specs.Str.{bytes_eq}
use Rattle.json_value.specs.Results.{◌>>=◌, found_or}
use Rattle.json_value.specs.Results as results
use Rattle.front_base.specs.Number as base
use Rattle.command_options.specs.Flag.{as_option, gives_value}
use Rattle.command_options.specs.Spelling.{Named, options_of}
use Rattle.command_options.specs.declared.files.FileNames.{FileNames}
use Rattle.command_options.specs.declared.fault.WordsFault.{WordsFault}
use Rattle.command_options.specs.declared.fault.WordsFault.TheVariants.{Usage, Limits, NoMemory}
use Rattle.command_options.specs.declared.ranged.Ranged.{Ranged}
use Rattle.command_options.specs.declared.ranged.Ranged.TheVariants as option

-- ---- options by their names

abbrev pub has_name : List ℕ → List Named → Bool
has_name name given = list_any (λ option. bytes_eq option.0 name) given

-- no name is given twice
abbrev pub are_distinct : List Named → Bool
are_distinct [] = true
are_distinct (option ∷ others) = not (has_name option.0 others) && are_distinct others

abbrev pub if_distinct : Option (List Named) → Option (List Named)
if_distinct None = None
if_distinct (Some given) = if are_distinct given then Some given else None

-- the options of a command, each given once at most
unfoldable pub given_of : List (List ℕ) → List (List ℕ) → Result (List Named) WordsFault
given_of names words = found_or Usage (if_distinct (options_of names words))

-- the words with a flag's as an option in one word, where none gives the flag a value
abbrev pub with_flag : List ℕ → List (List ℕ) → Result (List (List ℕ)) WordsFault
with_flag flag words = if list_any (gives_value flag) words then Err Usage else Ok (map (as_option flag) words)

-- the options of a command that has a flag
unfoldable pub given_with : List ℕ → List (List ℕ) → List (List ℕ) → Result (List Named) WordsFault
given_with flag names words = with_flag flag words >>= given_of names

-- the value of the option of that name
abbrev pub value_of : List ℕ → List Named → Option (List ℕ)
value_of name [] = None
value_of name (option ∷ others) = if bytes_eq option.0 name then Some option.1 else value_of name others

-- ---- files

-- the files that options name
abbrev pub file_names : List Named → FileNames
file_names given = record {
  tokens = value_of (codes "token-auth-file") given;
  policy = value_of (codes "audit-policy-file") given;
  services = value_of (codes "apiservices") given;
  endpoints = value_of (codes "endpoints") given;
}

-- ---- numbers

-- 1 to 20 digits whose number fits 64 bits
unfoldable pub number_of : List ℕ → Option ℕ
number_of text = if nat_lt 20 (length text) then None else base.number_of text

abbrev pub number_or : ℕ → Option (List ℕ) → Result ℕ WordsFault
number_or default None = Ok default
number_or default (Some text) = found_or Usage (number_of text)

abbrev pub some_number : Option ℕ → Result (Option ℕ) WordsFault
some_number None = Err Usage
some_number (Some n) = Ok (Some n)

-- the number that a value has, if there is one
abbrev pub number_in : Option (List ℕ) → Result (Option ℕ) WordsFault
number_in None = Ok None
number_in (Some text) = some_number (number_of text)

abbrev pub ranged_name : Ranged → List ℕ
ranged_name option.MaxEventSize = codes "max-event-size"
ranged_name option.Moment = codes "moment"
ranged_name option.Bays = codes "bays"
ranged_name option.Connections = codes "connections"
ranged_name option.BatchBuffer = codes "batch-buffer"
ranged_name option.BatchMaxSize = codes "batch-max-size"
ranged_name option.BatchMaxWait = codes "batch-max-wait-ms"
ranged_name option.MaxBatchSize = codes "max-batch-size"
ranged_name option.IdleTimeout = codes "idle-timeout"
ranged_name option.ReadHeaderTimeout = codes "read-header-timeout"
ranged_name option.MinRate = codes "min-rate"
ranged_name option.StallTimeout = codes "stall-timeout"
ranged_name option.DialTimeout = codes "dial-timeout"
ranged_name option.ResponseHeaderTimeout = codes "response-header-timeout"
ranged_name option.ShutdownTimeout = codes "shutdown-timeout"
ranged_name option.Tries = codes "tries"
ranged_name option.Rate = codes "rate"
ranged_name option.Burst = codes "burst"
ranged_name option.RetryWait = codes "retry-wait-ms"
ranged_name option.FromLine = codes "from-line"
ranged_name option.RequestTimeout = codes "request-timeout-ms"
ranged_name option.Rounds = codes "rounds"
ranged_name option.Every = codes "every"
ranged_name option.Threshold = codes "threshold"

-- the ends of an option's range
abbrev pub least : Ranged → ℕ
least option.MaxEventSize = 256
least option.Moment = 0
least option.Bays = 1
least option.Connections = 0
least option.BatchBuffer = 1
least option.BatchMaxSize = 1
least option.BatchMaxWait = 0
least option.MaxBatchSize = 256
least option.IdleTimeout = 1
least option.ReadHeaderTimeout = 1
least option.MinRate = 0
least option.StallTimeout = 1
least option.DialTimeout = 1
least option.ResponseHeaderTimeout = 1
least option.ShutdownTimeout = 0
least option.Tries = 1
least option.Rate = 1
least option.Burst = 1
least option.RetryWait = 1
least option.FromLine = 1
least option.RequestTimeout = 1
least option.Rounds = 1
least option.Every = 1
least option.Threshold = 1

abbrev pub most : Ranged → ℕ
most option.MaxEventSize = 4194304
most option.Moment = 253370764799999999
most option.Bays = 1024
most option.Connections = 18446744073709551615
most option.BatchBuffer = 100000
most option.BatchMaxSize = 10000
most option.BatchMaxWait = 3600000
most option.MaxBatchSize = 67108864
most option.IdleTimeout = 3600000
most option.ReadHeaderTimeout = 3600000
most option.MinRate = 1000000
most option.StallTimeout = 3600000
most option.DialTimeout = 3600000
most option.ResponseHeaderTimeout = 3600000
most option.ShutdownTimeout = 3600000
most option.Tries = 10
most option.Rate = 1000
most option.Burst = 1000
most option.RetryWait = 30000
most option.FromLine = 281474976710656
most option.RequestTimeout = 600000
most option.Rounds = 1000000
most option.Every = 86400
most option.Threshold = 10

-- its number where it isn't given, of `every` 0 for none
abbrev pub default_of : Ranged → ℕ
default_of option.MaxEventSize = 1048576
default_of option.Moment = 0
default_of option.Bays = 64
default_of option.Connections = 0
default_of option.BatchBuffer = 10000
default_of option.BatchMaxSize = 400
default_of option.BatchMaxWait = 30000
default_of option.MaxBatchSize = 10485760
default_of option.IdleTimeout = 60000
default_of option.ReadHeaderTimeout = 10000
default_of option.MinRate = 8192
default_of option.StallTimeout = 30000
default_of option.DialTimeout = 5000
default_of option.ResponseHeaderTimeout = 60000
default_of option.ShutdownTimeout = 20000
default_of option.Tries = 3
default_of option.Rate = 10
default_of option.Burst = 15
default_of option.RetryWait = 1000
default_of option.FromLine = 1
default_of option.RequestTimeout = 10000
default_of option.Rounds = 3
default_of option.Every = 0
default_of option.Threshold = 3

-- the number that is given to an option, or its default
abbrev pub number_given : Ranged → List Named → Result ℕ WordsFault
number_given option given = number_or (default_of option) (value_of (ranged_name option) given)

-- the number that is given to an option, if one is
abbrev pub number_if_given : Ranged → List Named → Result (Option ℕ) WordsFault
number_if_given option given = number_in (value_of (ranged_name option) given)

abbrev pub is_number : Result ℕ WordsFault → Bool
is_number (Ok n) = true
is_number (Err fault) = false

-- each of these options that is given has a number
abbrev pub have_numbers : List Ranged → List Named → Bool
have_numbers options given = list_all (λ option. is_number (number_given option given)) options

-- a number in the range of its option
abbrev pub in_range : Ranged → ℕ → Result ℕ WordsFault
in_range option n = if nat_lt n (least option) || nat_lt (most option) n then Err (Limits option n) else Ok n

-- ---- answers

abbrev pub is_memory : WordsFault → Bool
is_memory Usage = false
is_memory (Limits option number) = false
is_memory NoMemory = true

-- a fault that is answered is the one that is due, unless memory ran out
abbrev pub Fails : WordsFault → Option WordsFault → Type 0
Fails = results.Fails is_memory

-- what is answered, seen by view, is what is due, unless memory ran out
abbrev pub Gives : {A B : Type 0} → (A → B) → Result A WordsFault → Result B WordsFault → Type 0
Gives = results.Gives is_memory
