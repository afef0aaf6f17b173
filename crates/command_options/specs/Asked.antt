-- What the words of a command line ask for.
use Rattle.std.specs.Prelude.{ℕ, ◌||◌, Bool, if◌then◌else◌, List, [], ◌∷◌, codes}
use Rattle.std.specs.Str.{bytes_eq}
use Rattle.command_options.specs.declared.asked.Asked.{Asked}
use Rattle.command_options.specs.declared.asked.Asked.TheVariants.{Help, Version, Explain, Check, Serve, Ship, Resources, Probe, Rehearse, Unknown}
use Rattle.command_options.specs.declared.asked.Topic.TheVariants as topic

-- the option that asks for help
abbrev pub is_help_option : List ℕ → Bool
is_help_option word = bytes_eq word (codes "--help") || bytes_eq word (codes "-h")

-- the command of that name
abbrev pub command_of : List ℕ → Asked
command_of word =
    if bytes_eq word (codes "explain") then Explain
    else if bytes_eq word (codes "check") then Check
    else if bytes_eq word (codes "serve") then Serve
    else if bytes_eq word (codes "ship") then Ship
    else if bytes_eq word (codes "resources") then Resources
    else if bytes_eq word (codes "probe") then Probe
    else if bytes_eq word (codes "rehearse") then Rehearse
    else Unknown

-- a command has that name
abbrev pub is_command : List ℕ → Bool
is_command word = bytes_eq word (codes "explain")
    || (bytes_eq word (codes "check")
    || (bytes_eq word (codes "serve")
    || (bytes_eq word (codes "ship")
    || (bytes_eq word (codes "resources")
    || (bytes_eq word (codes "probe") || bytes_eq word (codes "rehearse"))))))

-- help on the command of that name
abbrev pub help_on : List ℕ → Asked
help_on word =
    if bytes_eq word (codes "explain") then Help topic.Explain
    else if bytes_eq word (codes "check") then Help topic.Check
    else if bytes_eq word (codes "serve") then Help topic.Serve
    else if bytes_eq word (codes "ship") then Help topic.Ship
    else if bytes_eq word (codes "resources") then Help topic.Resources
    else if bytes_eq word (codes "probe") then Help topic.Probe
    else if bytes_eq word (codes "rehearse") then Help topic.Rehearse
    else Unknown

-- `--help`, `-h`, `help`, `--version`, or a command without options
abbrev pub one_word : List ℕ → Asked
one_word word =
    if is_help_option word || bytes_eq word (codes "help") then Help topic.Program
    else if bytes_eq word (codes "--version") then Version
    else command_of word

-- `help COMMAND`, `COMMAND --help`, `COMMAND -h`, or a command with an option
abbrev pub two_words : List ℕ → List ℕ → Asked
two_words word next =
    if bytes_eq word (codes "help") then help_on next
    else if is_help_option next then help_on word
    else command_of word

-- help and the version are asked for by these words and no other
abbrev pub asked : List (List ℕ) → Asked
asked [] = Unknown
asked (word ∷ []) = one_word word
asked (word ∷ next ∷ []) = two_words word next
asked (word ∷ next ∷ third ∷ words) = command_of word
