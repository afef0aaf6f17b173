-- What `resources` begins with: its words, and the files that they name.
use Rattle.std.specs.Prelude.{◌≡◌, ℕ, ◌⊎◌, List, [], Option, Some, None, Result, Ok, Err}
use Rattle.command_options.specs.declared.fault.WordsFault.TheVariants as words_fault
use Rattle.command_options.specs.declared.ranged.Ranged.{Ranged}
use Rattle.front_config.specs.Load.{Reads, AreRead, load_of, name_for}
use Rattle.front_config.specs.declared.fault.FileFault.{FileFault}
use Rattle.front_config.specs.declared.fault.LoadFault.{LoadFault}
use Rattle.front_config.specs.declared.fault.LoadFault.TheVariants as load_fault
use Rattle.front_config.specs.declared.fault.Which.{Which}
use Rattle.front_config.specs.declared.files.Loaded.{Loaded}
use Rattle.front_ports.specs.Cause.{Rose}
use Rattle.front_ports.specs.FileMap.{HasFile, HasLongFile, Notes}
use Rattle.group_resources.specs.Reading.{BadAt}
use Rattle.group_resources.specs.declared.line.MergedLine.{MergedLine}
use Rattle.command_ends.specs.Ports.{FilesPort, Told}
use Rattle.command_ends.specs.Why.{TellsWords, why_of_load}
use Rattle.command_ends.specs.declared.status.Status.{Status}
use Rattle.command_ends.specs.declared.status.Status.TheVariants.{Usage, Configuration, ReadFault, NoMemory}
use Rattle.refusal_text.specs.declared.refusal.Refusal.{Refusal}
use Rattle.resources_command.specs.Previous.{HasDocument}
use Rattle.resources_command.specs.Words.{resources_command}
use Rattle.resources_command.specs.declared.previous.PreviousFault.{PreviousFault}
use Rattle.resources_command.specs.declared.previous.PreviousFault.TheVariants as previous_fault
use Rattle.resources_command.specs.declared.previous.PreviousRefusal.{PreviousRefusal}
use Rattle.resources_command.specs.declared.previous.PreviousStop.{PreviousStop}
use Rattle.resources_command.specs.declared.previous.PreviousStop.TheVariants as previous_stop
use Rattle.resources_command.specs.declared.settings.Settings.{Settings}
use Rattle.resources_command.specs.declared.words.ResourcesWords.{ResourcesWords}

-- reads of the files that words name but the earlier document, told as these, gave this
pub record Loads (told : Told) (own : ResourcesWords) (loaded : Result Loaded LoadFault) : Type 0 where
  pub reads : Reads
  pub read : AreRead told own.names reads
  pub load : load_of own.names reads ≡ loaded

-- these are the lines of the earlier document: none where no file is named
abbrev pub HasPrevious : Told → Option (List ℕ) → List MergedLine → Type 0
HasPrevious told None lines = lines ≡ []
HasPrevious told (Some name) lines = HasDocument told name lines

-- the files that words name say this
pub record Says (told : Told) (own : ResourcesWords) (settings : Settings) : Type 0 where
  pub loaded : Loaded
  pub loads : Loads told own (Ok loaded)
  pub table_is : settings.table ≡ loaded.table
  pub endpoints_are : settings.endpoints ≡ loaded.endpoints
  pub previous_is : HasPrevious told own.previous settings.previous

-- the words are a command line, and the files that it names say this
pub record Configures (words : List (List ℕ)) (told : Told) (settings : Settings) : Type 0 where
  pub own : ResourcesWords
  pub command : resources_command words ≡ Ok own
  pub says : Says told own settings

-- ---- refusals

-- a file is invalid, the earlier document not among them
pub record BadFile (own : ResourcesWords) (files : FilesPort) (why : Option Refusal) (previous : Option PreviousRefusal) : Type 0 where
  pub which : Which
  pub fault : FileFault
  pub loads : Loads files.before.told own (Err (load_fault.BadFile which fault))
  pub why_is : why ≡ why_of_load own.names (load_fault.BadFile which fault)
  pub nothing : previous ≡ None

-- one could not be read
pub record UnreadFile (own : ResourcesWords) (files : FilesPort) (why : Option Refusal) (previous : Option PreviousRefusal) : Type 0 where
  pub which : Which
  pub loads : Loads files.before.told own (Err (load_fault.ReadFault which))
  pub noted : Notes files.before.failed files.after.failed (name_for own.names which)
  pub why_is : why ≡ why_of_load own.names (load_fault.ReadFault which)
  pub nothing : previous ≡ None

-- the earlier document has more bytes than may be read, or a bad line
abbrev pub IsBadPrevious : Told → List ℕ → PreviousFault → Type 0
IsBadPrevious told name previous_fault.NotRead = ⊥
IsBadPrevious told name previous_fault.TooLong = HasLongFile told name
IsBadPrevious told name (previous_fault.BadLine at) = (bytes : List ℕ) × HasFile told name bytes × BadAt bytes at

-- the other files say something, and the earlier document is invalid
pub record BadPrevious (told : Told) (name : Option (List ℕ)) (why : Option Refusal) (previous : Option PreviousRefusal) : Type 0 where
  pub refused : PreviousRefusal
  pub named : name ≡ Some refused.name
  pub bad : IsBadPrevious told refused.name refused.fault
  pub why_is : why ≡ None
  pub previous_is : previous ≡ Some refused

-- it could not be read
pub record UnreadPrevious (failed now : Option (Option (List ℕ))) (name : Option (List ℕ)) (why : Option Refusal) (previous : Option PreviousRefusal)
    : Type 0 where
  pub refused : PreviousRefusal
  pub named : name ≡ Some refused.name
  pub fault_is : refused.fault ≡ previous_fault.NotRead
  pub noted : Notes failed now (Some refused.name)
  pub why_is : why ≡ None
  pub previous_is : previous ≡ Some refused

-- why the earlier document ends a run, by its status
abbrev pub PreviousEnds : Option (List ℕ) → FilesPort → Status → Option Refusal → Option PreviousRefusal → Type 0
PreviousEnds name files Configuration why previous = BadPrevious files.before.told name why previous
PreviousEnds name files ReadFault why previous =
    Rose files.before.faults files.after.faults × UnreadPrevious files.before.failed files.after.failed name why previous
PreviousEnds name files NoMemory why previous = Unit {0}
PreviousEnds name files _ why previous = ⊥

-- the other files say something
abbrev pub AreLoaded : Told → ResourcesWords → Type 0
AreLoaded told own = (loaded : Loaded) × Loads told own (Ok loaded)

-- why the files that words name end a run, by its status
abbrev pub FilesEnd : ResourcesWords → FilesPort → Status → Option Refusal → Option PreviousRefusal → Type 0
FilesEnd own files Configuration why previous =
    BadFile own files why previous
    ⊎ (AreLoaded files.before.told own × BadPrevious files.before.told own.previous why previous)
FilesEnd own files ReadFault why previous =
    Rose files.before.faults files.after.faults
    × (UnreadFile own files why previous
    ⊎ (AreLoaded files.before.told own × UnreadPrevious files.before.failed files.after.failed own.previous why previous))
FilesEnd own files NoMemory why previous = Unit {0}
FilesEnd own files _ why previous = ⊥

-- the number of an option is out of its range
abbrev pub OutOfRange : List (List ℕ) → Option Refusal → Option PreviousRefusal → Type 0
OutOfRange words why previous =
    (option : Ranged) × (n : ℕ) × (resources_command words ≡ Err (words_fault.Limits option n)) × TellsWords (words_fault.Limits option n) why
    × (previous ≡ None)

-- why a run ends before anything is asked, by its status, and what is told of it: the earlier document is read after the other files
abbrev pub IsRefused : List (List ℕ) → FilesPort → Status → Option Refusal → Option PreviousRefusal → Type 0
IsRefused words files Usage why previous =
    (resources_command words ≡ Err words_fault.Usage) × TellsWords words_fault.Usage why × (previous ≡ None)
IsRefused words files NoMemory why previous = Unit {0}
IsRefused words files Configuration why previous =
    OutOfRange words why previous
    ⊎ ((own : ResourcesWords) × (resources_command words ≡ Ok own) × FilesEnd own files Configuration why previous)
IsRefused words files status why previous =
    (own : ResourcesWords) × (resources_command words ≡ Ok own) × FilesEnd own files status why previous

-- ---- for private clauses

abbrev pub status_of_previous : PreviousFault → Status
status_of_previous previous_fault.NotRead = ReadFault
status_of_previous previous_fault.TooLong = Configuration
status_of_previous (previous_fault.BadLine at) = Configuration

-- how a stop at the document of that name is told
abbrev pub EndsWith : List ℕ → PreviousStop → Status → Option Refusal → Option PreviousRefusal → Type 0
EndsWith name (previous_stop.Refused fault) status why previous =
    (status ≡ status_of_previous fault) × (why ≡ None) × (previous ≡ Some (record { name = name; fault = fault }))
EndsWith name previous_stop.NoMemory status why previous = status ≡ NoMemory
