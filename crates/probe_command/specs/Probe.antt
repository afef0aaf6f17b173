-- The command line of `probe`.
use Rattle.std.specs.Prelude.{ℕ, ◌&&◌, ◌==◌, nat_le, Bool, false, if◌then◌else◌, List, [], ◌∷◌, Option, Some, None, Result, Ok, Err, codes}
use Rattle.std.specs.List.{list_all}
use Rattle.std.specs.Str.{bytes_eq}
use Rattle.json_value.specs.Results.{◌>>=◌, found_or}
use Rattle.json_value.specs.Results as results
use Rattle.command_options.specs.Options as options
use Rattle.command_options.specs.Options.{file_names, given_of, have_numbers, in_range, number_given, number_if_given, value_of}
use Rattle.command_options.specs.Spelling.{Named}
use Rattle.command_options.specs.declared.fault.WordsFault.{WordsFault}
use Rattle.command_options.specs.declared.fault.WordsFault.TheVariants.{Usage}
use Rattle.command_options.specs.declared.ranged.Ranged.{Ranged}
use Rattle.command_options.specs.declared.ranged.Ranged.TheVariants as option
use Rattle.front_base.specs.Address.{address_of}
use Rattle.front_base.specs.declared.address.Address.{Address}
use Rattle.probe_command.specs.declared.fault.ProbeFault.{ProbeFault}
use Rattle.probe_command.specs.declared.fault.ProbeFault.TheVariants.{Words, Front, Token}
use Rattle.probe_command.specs.declared.probe.ProbeWords.{ProbeWords}

-- the options of `probe`
abbrev pub probe_names : List (List ℕ)
probe_names =
    codes "apiservices" ∷ codes "endpoints" ∷ codes "front" ∷ codes "token" ∷ codes "token-file" ∷ codes "threshold" ∷ codes "every"
    ∷ codes "rounds" ∷ codes "request-timeout-ms" ∷ []

-- ---- numbers

-- those that have a number
abbrev pub probe_numbers : List Ranged
probe_numbers = option.Threshold ∷ option.Every ∷ option.Rounds ∷ option.RequestTimeout ∷ []

-- each of them that is given has a number
unfoldable pub numbers_of : List Named → Result (Unit {0}) ProbeFault
numbers_of given = if have_numbers probe_numbers given then Ok tt else Err (Words Usage)

abbrev pub in_words : {A : Type 0} → Result A WordsFault → Result A ProbeFault
in_words (Ok a) = Ok a
in_words (Err fault) = Err (Words fault)

-- the number of an option, in its range
unfoldable pub number_in : Ranged → List Named → Result ℕ WordsFault
number_in option given = number_given option given >>= in_range option

abbrev pub ranged : Ranged → List Named → Result ℕ ProbeFault
ranged option given = in_words (number_in option given)

-- the seconds from the beginning of a round to that of the next one, in their range, and 0 where nothing says so
abbrev pub every_by : Option ℕ → Result ℕ WordsFault
every_by None = Ok 0
every_by (Some n) = in_range option.Every n

unfoldable pub every_in : List Named → Result ℕ WordsFault
every_in given = number_if_given option.Every given >>= every_by

abbrev pub every_of : List Named → Result ℕ ProbeFault
every_of given = in_words (every_in given)

-- how many rounds there are where nothing says so: as many as probes change a condition, or as many as there may be where they go on
abbrev pub rounds_else : ℕ → ℕ → ℕ
rounds_else threshold every = if every == 0 then threshold else 1000000

-- how many rounds there are, in their range
abbrev pub rounds_by : ℕ → ℕ → Option ℕ → Result ℕ WordsFault
rounds_by threshold every None = Ok (rounds_else threshold every)
rounds_by threshold every (Some n) = in_range option.Rounds n

unfoldable pub rounds_in : ℕ → ℕ → List Named → Result ℕ WordsFault
rounds_in threshold every given = number_if_given option.Rounds given >>= rounds_by threshold every

abbrev pub rounds_of : ℕ → ℕ → List Named → Result ℕ ProbeFault
rounds_of threshold every given = in_words (rounds_in threshold every given)

-- ---- the front door

-- port 8001 of this machine alone, as `serve` has it
abbrev pub default_address : Address
default_address = record { ip = 127 ∷ 0 ∷ 0 ∷ 1 ∷ []; port = 8001 }

abbrev pub front_of : Option (List ℕ) → Result Address ProbeFault
front_of None = Ok default_address
front_of (Some text) = found_or (Front text) (address_of text)

-- a byte from `!` to `~`, so that the token can stand in a header (RFC 9110, section 5.5) and is read whole
abbrev pub is_token_byte : ℕ → Bool
is_token_byte b = nat_le 33 b && nat_le b 126

abbrev pub is_token : List ℕ → Bool
is_token text = list_all is_token_byte text

abbrev pub token_of : Option (List ℕ) → Result (Option (List ℕ)) ProbeFault
token_of None = Ok None
token_of (Some text) = if is_token text then Ok (Some text) else Err Token

-- a token and a file with one don't stand beside one another
abbrev pub one_token : Option (List ℕ) → Option (List ℕ) → Result (Unit {0}) ProbeFault
one_token None file = Ok tt
one_token (Some token) None = Ok tt
one_token (Some token) (Some file) = Err (Words Usage)

-- ---- what is told

-- what `probe` is told by its options. Numbers are read before ranges are looked at
unfoldable pub probe_by : List Named → Result ProbeWords ProbeFault
probe_by given = do
  numbers ← numbers_of given
  tokens ← one_token (value_of (codes "token") given) (value_of (codes "token-file") given)
  front ← front_of (value_of (codes "front") given)
  token ← token_of (value_of (codes "token") given)
  threshold ← ranged option.Threshold given
  every ← every_of given
  rounds ← rounds_of threshold every given
  timeout ← ranged option.RequestTimeout given
  Ok (record {
    files = file_names given;
    front = front;
    token = token;
    token_file = value_of (codes "token-file") given;
    threshold = threshold;
    every = every;
    rounds = rounds;
    request_timeout = timeout;
  })

unfoldable pub probe_of : List (List ℕ) → Result ProbeWords ProbeFault
probe_of words = in_words (given_of probe_names words) >>= probe_by

-- what words ask for: the command's word, and its options
unfoldable pub probe_command : List (List ℕ) → Result ProbeWords ProbeFault
probe_command [] = Err (Words Usage)
probe_command (word ∷ words) = if bytes_eq word (codes "probe") then probe_of words else Err (Words Usage)

-- ---- answers

abbrev pub is_memory : ProbeFault → Bool
is_memory (Words fault) = options.is_memory fault
is_memory (Front text) = false
is_memory Token = false

-- what is answered, seen by view, is what is due, unless memory ran out
abbrev pub Gives : {A B : Type 0} → (A → B) → Result A ProbeFault → Result B ProbeFault → Type 0
Gives = results.Gives is_memory
