-- A run of the command `explain`: its words, the files that they name, and the requests of its input.
use Rattle.std.specs.Prelude.{◌≡◌, ℕ, ◌⊎◌, List, [], Option, Result, Ok, Err}
use Rattle.apiservice_rows.specs.Row.{Row}
use Rattle.front_ports.specs.Cause.{Rose}
use Rattle.front_ports.specs.FileMap.{Notes}
use Rattle.front_config.specs.Load.{Reads, AreRead, load_of, name_for}
use Rattle.front_config.specs.Words.{command_of}
use Rattle.front_config.specs.declared.command.Command.TheVariants.{Explain}
use Rattle.front_config.specs.declared.command.ExplainWords.{ExplainWords}
use Rattle.front_config.specs.declared.fault.FileFault.{FileFault}
use Rattle.front_config.specs.declared.fault.LoadFault.{LoadFault}
use Rattle.front_config.specs.declared.fault.LoadFault.TheVariants as load_fault
use Rattle.command_options.specs.declared.ranged.Ranged.{Ranged}
use Rattle.front_config.specs.declared.fault.Which.{Which}
use Rattle.command_options.specs.declared.fault.WordsFault.TheVariants as words_fault
use Rattle.front_config.specs.declared.files.Loaded.{Loaded}
use Rattle.audit_core.specs.declared.sinks.SinkMode.TheVariants.{Off}
use Rattle.command_ends.specs.Ports.{Port, FilesPort, Told, AreSound, IsUntouched}
use Rattle.explain_run.specs.Serving.{Serves}
use Rattle.command_ends.specs.Why.{TellsWords, why_of_load, TellsServing}
use Rattle.refusal_text.specs.declared.refusal.Refusal.{Refusal}
use Rattle.explain_run.specs.declared.setup.Setup.{Setup}
use Rattle.command_ends.specs.declared.status.Status.{Status}
use Rattle.command_ends.specs.declared.status.Status.TheVariants.{Usage, Configuration, ReadFault, NoMemory}

-- the words are a command line, and reads of the files that it names, told as these, gave this
pub record Loads (words : List (List ℕ)) (told : Told) (loaded : Result Loaded LoadFault) : Type 0 where
  pub explain : ExplainWords
  pub command : command_of words ≡ Ok (Explain explain)
  pub reads : Reads
  pub read : AreRead told explain.files reads
  pub load : load_of explain.files reads ≡ loaded

-- what words and files tell a run
abbrev pub setup_of : ExplainWords → Loaded → Setup
setup_of explain loaded = record {
  settings = record {
    tokens = loaded.tokens;
    policy = loaded.policy;
    endpoints = loaded.endpoints;
    max_event = explain.max_event;
    log = Off;
    hook = Off;
  };
  moment = explain.moment;
  routes = explain.routes;
}

-- the words are a command line, the files that it names are accepted, and together they tell this, and the first rows
pub record Configures (words : List (List ℕ)) (told : Told) (set : Setup) (rows : List Row) : Type 0 where
  pub loaded : Loaded
  pub loads : Loads words told (Ok loaded)
  pub are : set ≡ setup_of loads.explain loaded
  pub rows_are : rows ≡ loaded.table.rows

-- why a run ends before its input is read, by its status, and what is told of it
abbrev pub IsRefused : List (List ℕ) → FilesPort → Status → Option Refusal → Type 0
IsRefused words files Usage why = (command_of words ≡ Err words_fault.Usage) × TellsWords words_fault.Usage why
IsRefused words files Configuration why =
    ((option : Ranged) × (n : ℕ) × (command_of words ≡ Err (words_fault.Limits option n)) × TellsWords (words_fault.Limits option n) why)
    ⊎ ((which : Which) × (fault : FileFault) × (loads : Loads words files.before.told (Err (load_fault.BadFile which fault)))
    × (why ≡ why_of_load loads.explain.files (load_fault.BadFile which fault)))
IsRefused words files ReadFault why =
    Rose files.before.faults files.after.faults
    × ((which : Which) × (loads : Loads words files.before.told (Err (load_fault.ReadFault which)))
    × Notes files.before.failed files.after.failed (name_for loads.explain.files which)
    × (why ≡ why_of_load loads.explain.files (load_fault.ReadFault which)))
IsRefused words files NoMemory why = Unit {0}
IsRefused words files _ why = ⊥

-- a run: it is refused before it reads or writes anything, or all its files were read and the requests of its input are
-- served. What is told says why it ended, and how many events are too large for a line
abbrev pub Run : List (List ℕ) → FilesPort → Port → Port → Status → Option Refusal → ℕ → Type 0
Run words files input output status why large =
    (IsRefused words files status why × IsUntouched input × IsUntouched output × (large ≡ 0))
    ⊎ ((set : Setup) × (rows : List Row) × Configures words files.before.told set rows × AreSound files
    × Serves set rows input output large status × TellsServing status why)
