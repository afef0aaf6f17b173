-- What `probe` begins with: its words, and the files that they name.
use Rattle.std.specs.Prelude.{◌≡◌, ℕ, ◌⊎◌, List, Option, Some, Result, Ok, Err}
use Rattle.command_options.specs.declared.fault.WordsFault.TheVariants as words_fault
use Rattle.command_options.specs.declared.ranged.Ranged.{Ranged}
use Rattle.front_config.specs.Load.{Reads, AreRead, load_of, name_for}
use Rattle.front_config.specs.declared.fault.FileFault.{FileFault}
use Rattle.front_config.specs.declared.fault.LoadFault.{LoadFault}
use Rattle.front_config.specs.declared.fault.LoadFault.TheVariants as load_fault
use Rattle.front_config.specs.declared.fault.Which.{Which}
use Rattle.front_config.specs.declared.files.Loaded.{Loaded}
use Rattle.front_ports.specs.Cause.{Rose}
use Rattle.front_ports.specs.FileMap.{Notes}
use Rattle.command_ends.specs.Ports.{FilesPort, Told}
use Rattle.command_ends.specs.Why.{TellsWords, status_of_words, why_of_load}
use Rattle.command_ends.specs.declared.status.Status.{Status}
use Rattle.command_ends.specs.declared.status.Status.TheVariants.{Usage, Configuration, ReadFault, NoMemory}
use Rattle.refusal_text.specs.declared.refusal.Refusal.{Refusal}
use Rattle.refusal_text.specs.declared.refusal.Refusal.TheVariants as refusal
use Rattle.probe_command.specs.Token.{Bad, HasToken, Unread}
use Rattle.probe_command.specs.declared.config.ProbeConfig.{ProbeConfig}
use Rattle.probe_command.specs.Probe.{probe_command}
use Rattle.probe_command.specs.declared.fault.ProbeFault.{ProbeFault}
use Rattle.probe_command.specs.declared.fault.ProbeFault.TheVariants.{Words, Front, Token}
use Rattle.probe_command.specs.declared.probe.ProbeWords.{ProbeWords}

-- the words are a command line of `probe`, and reads of the files that it names, told as these, gave this
pub record Loads (words : List (List ℕ)) (told : Told) (loaded : Result Loaded LoadFault) : Type 0 where
  pub asked : ProbeWords
  pub command : probe_command words ≡ Ok asked
  pub reads : Reads
  pub read : AreRead told asked.files reads
  pub load : load_of asked.files reads ≡ loaded

-- the words are a command line of `probe`, the files that it names are accepted, the file that it names for a token has one, and they tell this
pub record Configures (words : List (List ℕ)) (told tokens : Told) (config : ProbeConfig) : Type 0 where
  pub command : probe_command words ≡ Ok config.words
  pub reads : Reads
  pub read : AreRead told config.words.files reads
  pub load : load_of config.words.files reads ≡ Ok config.loaded
  pub token : HasToken tokens config.words.token_file config.token

abbrev pub status_of_probe : ProbeFault → Status
status_of_probe (Words fault) = status_of_words fault
status_of_probe (Front text) = Configuration
status_of_probe Token = Configuration

-- some word, the option and its number, or the text of the option; of a token nothing
abbrev pub TellsProbe : ProbeFault → Option Refusal → Type 0
TellsProbe (Words fault) why = TellsWords fault why
TellsProbe (Front text) why = why ≡ Some (refusal.Front text)
TellsProbe Token why = why ≡ Some refusal.Token

-- words are refused with this fault, and this is told of it
abbrev pub Refuses : List (List ℕ) → ProbeFault → Option Refusal → Type 0
Refuses words fault why = (probe_command words ≡ Err fault) × TellsProbe fault why

-- the file with a token could not be read, or holds none, after the words and the other files were accepted
abbrev pub IsUntold : Option (List ℕ) → FilesPort → Status → Option Refusal → Type 0
IsUntold name tokens Configuration why = Bad tokens.before.told name why
IsUntold name tokens ReadFault why = Unread tokens.before.failed tokens.after.failed tokens.before.faults tokens.after.faults name why
IsUntold name tokens NoMemory why = Unit {0}
IsUntold name tokens _ why = ⊥

pub record Untold (words : List (List ℕ)) (files tokens : FilesPort) (status : Status) (why : Option Refusal) : Type 0 where
  pub loaded : Loaded
  pub loads : Loads words files.before.told (Ok loaded)
  pub untold : IsUntold loads.asked.token_file tokens status why

-- why a run ends before anything is dialed, by its status, and what is told of it
abbrev pub IsRefused : List (List ℕ) → FilesPort → FilesPort → Status → Option Refusal → Type 0
IsRefused words files tokens Usage why = Refuses words (Words words_fault.Usage) why
IsRefused words files tokens Configuration why =
    ((option : Ranged) × (n : ℕ) × Refuses words (Words (words_fault.Limits option n)) why)
    ⊎ (((text : List ℕ) × Refuses words (Front text) why)
    ⊎ ((Refuses words Token why)
    ⊎ (((which : Which) × (fault : FileFault) × (loads : Loads words files.before.told (Err (load_fault.BadFile which fault)))
    × (why ≡ why_of_load loads.asked.files (load_fault.BadFile which fault)))
    ⊎ Untold words files tokens Configuration why)))
IsRefused words files tokens ReadFault why =
    (Rose files.before.faults files.after.faults
    × ((which : Which) × (loads : Loads words files.before.told (Err (load_fault.ReadFault which)))
    × Notes files.before.failed files.after.failed (name_for loads.asked.files which)
    × (why ≡ why_of_load loads.asked.files (load_fault.ReadFault which))))
    ⊎ Untold words files tokens ReadFault why
IsRefused words files tokens NoMemory why = Unit {0}
IsRefused words files tokens _ why = ⊥
