-- What `check` begins with: its words, and the policy file that they name.
use Rattle.std.specs.Prelude.{◌≡◌, ℕ, ◌⊎◌, List, Option, Result, Ok, Err}
use Rattle.check_command.specs.Words.{check_command}
use Rattle.command_options.specs.declared.fault.WordsFault.TheVariants as words_fault
use Rattle.command_options.specs.declared.files.FileNames.{FileNames}
use Rattle.command_options.specs.declared.ranged.Ranged.{Ranged}
use Rattle.front_config.specs.Load.{Reads, AreRead, load_of, name_for}
use Rattle.front_config.specs.declared.fault.FileFault.{FileFault}
use Rattle.front_config.specs.declared.fault.LoadFault.{LoadFault}
use Rattle.front_config.specs.declared.fault.LoadFault.TheVariants as load_fault
use Rattle.front_config.specs.declared.fault.Which.{Which}
use Rattle.front_config.specs.declared.files.Loaded.{Loaded}
use Rattle.front_ports.specs.Cause.{Rose}
use Rattle.front_ports.specs.FileMap.{Notes}
use Rattle.policy_rules.specs.declared.policy.Policy.{Policy}
use Rattle.command_ends.specs.Ports.{FilesPort, Told}
use Rattle.command_ends.specs.Why.{TellsWords, why_of_load}
use Rattle.command_ends.specs.declared.status.Status.{Status}
use Rattle.command_ends.specs.declared.status.Status.TheVariants.{Usage, Configuration, ReadFault, NoMemory}
use Rattle.refusal_text.specs.declared.refusal.Refusal.{Refusal}

-- the words are a command line of `check`, and reads of the files that it names, told as these, gave this
pub record Loads (words : List (List ℕ)) (told : Told) (loaded : Result Loaded LoadFault) : Type 0 where
  pub names : FileNames
  pub command : check_command words ≡ Ok names
  pub reads : Reads
  pub read : AreRead told names reads
  pub load : load_of names reads ≡ loaded

-- the words are a command line of `check`, and the policy file that it names, if it names one, says this
pub record Configures (words : List (List ℕ)) (told : Told) (policy : Policy) : Type 0 where
  pub loaded : Loaded
  pub loads : Loads words told (Ok loaded)
  pub policy_is : policy ≡ loaded.policy

-- why it ends before the log is read, by its status, and what is told of it
abbrev pub IsRefused : List (List ℕ) → FilesPort → Status → Option Refusal → Type 0
IsRefused words files Usage why = (check_command words ≡ Err words_fault.Usage) × TellsWords words_fault.Usage why
IsRefused words files Configuration why =
    ((option : Ranged) × (n : ℕ) × (check_command words ≡ Err (words_fault.Limits option n)) × TellsWords (words_fault.Limits option n) why)
    ⊎ ((which : Which) × (fault : FileFault) × (loads : Loads words files.before.told (Err (load_fault.BadFile which fault)))
    × (why ≡ why_of_load loads.names (load_fault.BadFile which fault)))
IsRefused words files ReadFault why =
    Rose files.before.faults files.after.faults
    × ((which : Which) × (loads : Loads words files.before.told (Err (load_fault.ReadFault which)))
    × Notes files.before.failed files.after.failed (name_for loads.names which)
    × (why ≡ why_of_load loads.names (load_fault.ReadFault which)))
IsRefused words files NoMemory why = Unit {0}
IsRefused words files _ why = ⊥
