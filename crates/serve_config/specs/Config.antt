-- What `serve` begins with: its words, and the files that they name.
use Rattle.std.specs.Prelude.{◌≡◌, ℕ, ◌⊎◌, List, Option, Some, Result, Ok, Err}
use Rattle.command_options.specs.declared.fault.WordsFault.TheVariants as words_fault
use Rattle.command_options.specs.declared.ranged.Ranged.{Ranged}
use Rattle.front_config.specs.Load.{Reads, AreRead, load_of, name_for}
use Rattle.front_config.specs.declared.fault.FileFault.{FileFault}
use Rattle.front_config.specs.declared.fault.LoadFault.{LoadFault}
use Rattle.front_config.specs.declared.fault.LoadFault.TheVariants as load_fault
use Rattle.front_config.specs.declared.fault.Which.{Which}
use Rattle.front_config.specs.declared.files.Loaded.{Loaded}
use Rattle.front_ports.specs.Cause.{Rose}
use Rattle.front_ports.specs.FileMap.{Notes}
use Rattle.command_ends.specs.Ports.{FilesPort, Told}
use Rattle.command_ends.specs.Why.{TellsWords, status_of_words, why_of_load}
use Rattle.command_ends.specs.declared.status.Status.{Status}
use Rattle.command_ends.specs.declared.status.Status.TheVariants.{Usage, Configuration, ReadFault, NoMemory}
use Rattle.refusal_text.specs.declared.refusal.Refusal.{Refusal}
use Rattle.refusal_text.specs.declared.refusal.Refusal.TheVariants as refusal
use Rattle.serve_config.specs.declared.config.ServeConfig.{ServeConfig}
use Rattle.serve_config.specs.Serve.{serve_command}
use Rattle.serve_config.specs.declared.fault.ServeFault.{ServeFault}
use Rattle.serve_config.specs.declared.fault.ServeFault.TheVariants.{Words, Listen, Webhook, OwnWebhook}
use Rattle.serve_config.specs.declared.serve.ServeWords.{ServeWords}

-- the words are a command line of `serve`, and reads of the files that it names, told as these, gave this
pub record Loads (words : List (List ℕ)) (told : Told) (loaded : Result Loaded LoadFault) : Type 0 where
  pub serve : ServeWords
  pub command : serve_command words ≡ Ok serve
  pub reads : Reads
  pub read : AreRead told serve.files reads
  pub load : load_of serve.files reads ≡ loaded

-- the words are a command line of `serve`, the files that it names are accepted, and they tell this
pub record Configures (words : List (List ℕ)) (told : Told) (config : ServeConfig) : Type 0 where
  pub command : serve_command words ≡ Ok config.words
  pub reads : Reads
  pub read : AreRead told config.words.files reads
  pub load : load_of config.words.files reads ≡ Ok config.loaded

abbrev pub status_of_serve : ServeFault → Status
status_of_serve (Words fault) = status_of_words fault
status_of_serve (Listen text) = Configuration
status_of_serve (Webhook url) = Configuration
status_of_serve (OwnWebhook url) = Configuration

-- some word, the option and its number, or the text of the option
abbrev pub TellsServe : ServeFault → Option Refusal → Type 0
TellsServe (Words fault) why = TellsWords fault why
TellsServe (Listen text) why = why ≡ Some (refusal.Listen text)
TellsServe (Webhook url) why = why ≡ Some (refusal.Webhook url)
TellsServe (OwnWebhook url) why = why ≡ Some (refusal.OwnWebhook url)

-- words are refused with this fault, and this is told of it
abbrev pub Refuses : List (List ℕ) → ServeFault → Option Refusal → Type 0
Refuses words fault why = (serve_command words ≡ Err fault) × TellsServe fault why

-- why a run ends before anything is opened, by its status, and what is told of it
abbrev pub IsRefused : List (List ℕ) → FilesPort → Status → Option Refusal → Type 0
IsRefused words files Usage why = Refuses words (Words words_fault.Usage) why
IsRefused words files Configuration why =
    ((option : Ranged) × (n : ℕ) × Refuses words (Words (words_fault.Limits option n)) why)
    ⊎ (((text : List ℕ) × Refuses words (Listen text) why)
    ⊎ (((url : List ℕ) × Refuses words (Webhook url) why)
    ⊎ (((url : List ℕ) × Refuses words (OwnWebhook url) why)
    ⊎ ((which : Which) × (fault : FileFault) × (loads : Loads words files.before.told (Err (load_fault.BadFile which fault)))
    × (why ≡ why_of_load loads.serve.files (load_fault.BadFile which fault))))))
IsRefused words files ReadFault why =
    Rose files.before.faults files.after.faults
    × ((which : Which) × (loads : Loads words files.before.told (Err (load_fault.ReadFault which)))
    × Notes files.before.failed files.after.failed (name_for loads.serve.files which)
    × (why ≡ why_of_load loads.serve.files (load_fault.ReadFault which)))
IsRefused words files NoMemory why = Unit {0}
IsRefused words files _ why = ⊥
