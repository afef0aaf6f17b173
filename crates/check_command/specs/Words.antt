-- The command lines of `check`.
use Rattle.std.specs.Prelude.{ℕ, if◌then◌else◌, Bool, List, [], ◌∷◌, Result, Ok, Err, codes}
use Rattle.std.specs.List.{list_any}
use Rattle.std.specs.Str.{bytes_eq}
use Rattle.json_value.specs.Results.{◌>>=◌}
use Rattle.command_options.specs.Flag.{is_flag}
use Rattle.command_options.specs.Options.{file_names, given_of, with_flag}
use Rattle.command_options.specs.Spelling.{Named}
use Rattle.command_options.specs.declared.fault.WordsFault.{WordsFault}
use Rattle.command_options.specs.declared.fault.WordsFault.TheVariants.{Usage}
use Rattle.command_options.specs.declared.files.FileNames.{FileNames}

abbrev pub named : Result (List Named) WordsFault → Result FileNames WordsFault
named (Ok given) = Ok (file_names given)
named (Err fault) = Err fault

-- the files that its options name, where the flags are options in one word
unfoldable pub names_given : List (List ℕ) → Result FileNames WordsFault
names_given words = named (given_of (codes "audit-policy-file" ∷ codes "summary" ∷ codes "all" ∷ []) words)

unfoldable pub names_of_all : List (List ℕ) → Result FileNames WordsFault
names_of_all words = with_flag (codes "all") words >>= names_given

-- the files that its options name
unfoldable pub names_of : List (List ℕ) → Result FileNames WordsFault
names_of words = with_flag (codes "summary") words >>= names_of_all

-- the word of the command, and its options
unfoldable pub check_command : List (List ℕ) → Result FileNames WordsFault
check_command [] = Err Usage
check_command (word ∷ words) = if bytes_eq word (codes "check") then names_of words else Err Usage

-- some word is the flag that asks for all lines that don't conform
abbrev pub asks_all : List (List ℕ) → Bool
asks_all words = list_any (is_flag (codes "all")) words

-- some word is the flag that asks for a summary
abbrev pub asks_summary : List (List ℕ) → Bool
asks_summary words = list_any (is_flag (codes "summary")) words
