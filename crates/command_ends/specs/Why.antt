-- What is told of a run beside its status.
use Rattle.std.specs.Prelude.{◌≡◌, ℕ, Option, Some, None}
use Rattle.command_options.specs.declared.files.FileNames.{FileNames}
use Rattle.command_options.specs.declared.diagnosis.BadWord.{BadWord}
use Rattle.front_config.specs.declared.fault.LoadFault.{LoadFault}
use Rattle.front_config.specs.declared.fault.LoadFault.TheVariants as load_fault
use Rattle.command_options.specs.declared.fault.WordsFault.{WordsFault}
use Rattle.command_options.specs.declared.fault.WordsFault.TheVariants as words_fault
use Rattle.http_edge.specs.declared.request.End.{End}
use Rattle.command_ends.specs.declared.status.Status.{Status}
use Rattle.command_ends.specs.declared.status.Status.TheVariants.{Usage, Configuration, ReadFault, NoMemory, WriteFault, Input}
use Rattle.refusal_text.specs.declared.refusal.Refusal.{Refusal}
use Rattle.refusal_text.specs.declared.refusal.Refusal.TheVariants as refusal

abbrev pub status_of_words : WordsFault → Status
status_of_words words_fault.Usage = Usage
status_of_words (words_fault.Limits option n) = Configuration
status_of_words words_fault.NoMemory = NoMemory

-- some word, or the option and its number
abbrev pub TellsWords : WordsFault → Option Refusal → Type 0
TellsWords words_fault.Usage why = (bad : BadWord) × (why ≡ Some (refusal.Words bad))
TellsWords (words_fault.Limits option n) why = why ≡ Some (refusal.Limits option n)
TellsWords words_fault.NoMemory why = Unit {0}

abbrev pub status_of_load : LoadFault → Status
status_of_load (load_fault.ReadFault which) = ReadFault
status_of_load (load_fault.BadFile which fault) = Configuration
status_of_load load_fault.NoMemory = NoMemory

-- the names of the files, and the fault of one
abbrev pub why_of_load : FileNames → LoadFault → Option Refusal
why_of_load names (load_fault.ReadFault which) = Some (refusal.Files names (load_fault.ReadFault which))
why_of_load names (load_fault.BadFile which fault) = Some (refusal.Files names (load_fault.BadFile which fault))
why_of_load names load_fault.NoMemory = None

-- the input or the output that failed, or some request; nothing where there is nothing more to tell
abbrev pub TellsServing : Status → Option Refusal → Type 0
TellsServing ReadFault why = why ≡ Some refusal.Input
TellsServing WriteFault why = why ≡ Some refusal.Output
TellsServing Input why = (number : ℕ) × (byte : ℕ) × (end : End) × (why ≡ Some (refusal.Request number byte end))
TellsServing _ why = why ≡ None
