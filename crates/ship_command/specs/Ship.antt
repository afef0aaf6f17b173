-- The command line of `ship`.
use Rattle.std.specs.Prelude.{ℕ, Bool, false, if◌then◌else◌, List, [], ◌∷◌, Option, Some, None, is_some, Result, Ok, Err, codes}
use Rattle.std.specs.Str.{bytes_eq}
use Rattle.json_value.specs.Results.{◌>>=◌}
use Rattle.json_value.specs.Results as results
use Rattle.command_options.specs.Options as options
use Rattle.command_options.specs.Options.{given_of, have_numbers, in_range, number_given, value_of}
use Rattle.command_options.specs.Spelling.{Named}
use Rattle.command_options.specs.declared.fault.WordsFault.{WordsFault}
use Rattle.command_options.specs.declared.fault.WordsFault.TheVariants.{Usage}
use Rattle.command_options.specs.declared.ranged.Ranged.{Ranged}
use Rattle.command_options.specs.declared.ranged.Ranged.TheVariants as option
use Rattle.log_ship.specs.declared.pace.ShipPace.{ShipPace}
use Rattle.ship_command.specs.declared.fault.ShipFault.{ShipFault}
use Rattle.ship_command.specs.declared.fault.ShipFault.TheVariants.{Words, Webhook}
use Rattle.ship_command.specs.declared.ship.ShipWords.{ShipWords}
use Rattle.webhook_sink.specs.Hooks.{hook_named}

-- the options of `ship`
abbrev pub ship_names : List (List ℕ)
ship_names =
    codes "audit-webhook-url" ∷ codes "batch-max-size" ∷ codes "max-batch-size"
    ∷ codes "tries" ∷ codes "rate" ∷ codes "burst" ∷ codes "retry-wait-ms" ∷ codes "from-line" ∷ []

-- ---- numbers

-- those that have a number
abbrev pub ship_numbers : List Ranged
ship_numbers =
    option.BatchMaxSize ∷ option.MaxBatchSize ∷ option.Tries ∷ option.Rate ∷ option.Burst ∷ option.RetryWait ∷ option.FromLine ∷ []

-- each of them that is given has a number
unfoldable pub numbers_of : List Named → Result (Unit {0}) ShipFault
numbers_of given = if have_numbers ship_numbers given then Ok tt else Err (Words Usage)

abbrev pub in_words : {A : Type 0} → Result A WordsFault → Result A ShipFault
in_words (Ok a) = Ok a
in_words (Err fault) = Err (Words fault)

-- the number of an option, in its range
unfoldable pub number_in : Ranged → List Named → Result ℕ WordsFault
number_in option given = number_given option given >>= in_range option

abbrev pub ranged : Ranged → List Named → Result ℕ ShipFault
ranged option given = in_words (number_in option given)

-- ---- what is told

unfoldable pub pace_by : List Named → Result ShipPace ShipFault
pace_by given = do
  max_lines ← ranged option.BatchMaxSize given
  max_bytes ← ranged option.MaxBatchSize given
  tries ← ranged option.Tries given
  rate ← ranged option.Rate given
  burst ← ranged option.Burst given
  wait_ms ← ranged option.RetryWait given
  from_line ← ranged option.FromLine given
  Ok (record {
    max_lines = max_lines;
    max_bytes = max_bytes;
    tries = tries;
    rate = rate;
    burst = burst;
    wait_ms = wait_ms;
    from_line = from_line;
  })

-- a webhook can have this URL
unfoldable pub webhook_at : List ℕ → Result (List ℕ) ShipFault
webhook_at url = if is_some (hook_named url) then Ok url else Err (Webhook url)

-- what `ship` is told by this URL and its other options. Numbers are read before ranges are looked at, and the URL comes last
unfoldable pub ship_at : List ℕ → List Named → Result ShipWords ShipFault
ship_at url given = do
  numbers ← numbers_of given
  pace ← pace_by given
  checked ← webhook_at url
  Ok (record { url = checked; pace = pace })

-- it posts nowhere without a URL
abbrev pub ship_to : Option (List ℕ) → List Named → Result ShipWords ShipFault
ship_to None given = Err (Words Usage)
ship_to (Some url) given = ship_at url given

abbrev pub ship_by : List Named → Result ShipWords ShipFault
ship_by given = ship_to (value_of (codes "audit-webhook-url") given) given

unfoldable pub ship_of : List (List ℕ) → Result ShipWords ShipFault
ship_of words = in_words (given_of ship_names words) >>= ship_by

-- what words ask for: the command's word, and its options
unfoldable pub ship_command : List (List ℕ) → Result ShipWords ShipFault
ship_command [] = Err (Words Usage)
ship_command (word ∷ words) = if bytes_eq word (codes "ship") then ship_of words else Err (Words Usage)

-- ---- answers

abbrev pub is_memory : ShipFault → Bool
is_memory (Words fault) = options.is_memory fault
is_memory (Webhook text) = false

-- what is answered, seen by view, is what is due, unless memory ran out
abbrev pub Gives : {A B : Type 0} → (A → B) → Result A ShipFault → Result B ShipFault → Type 0
Gives = results.Gives is_memory
