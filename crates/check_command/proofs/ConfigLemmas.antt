-- How `check` is refused by the file that its words name.
use Rattle.std.proofs.Common.{◌≡◌, ℕ, List, Result, Ok, Err, refl, inr}
use Rattle.check_command.specs.Config.{IsRefused, Loads}
use Rattle.check_command.specs.Words.{check_command}
use Rattle.command_options.specs.declared.files.FileNames.{FileNames}
use Rattle.front_config.specs.Load as load
use Rattle.front_config.specs.Load.{Reads, AreRead, load_of}
use Rattle.front_config.specs.declared.fault.FileFault.{FileFault}
use Rattle.front_config.specs.declared.fault.LoadFault.{LoadFault}
use Rattle.front_config.specs.declared.fault.LoadFault.TheVariants as load_fault
use Rattle.front_config.specs.declared.fault.Which.{Which}
use Rattle.front_config.specs.declared.files.Loaded.{Loaded}
use Rattle.command_ends.specs.Ports.{FilesPort, Told}
use Rattle.command_ends.specs.Why.{status_of_load, why_of_load}

-- a fault that is answered is the one that is due, but for memory
read_due : (r : Result Loaded LoadFault) (which : Which) → load.Gives (Err (load_fault.ReadFault which)) r → r ≡ Err (load_fault.ReadFault which)
read_due (Ok a) which e = absurd (cc e)
read_due (Err own) which e = cc

file_due : (r : Result Loaded LoadFault) (which : Which) (fault : FileFault) → load.Gives (Err (load_fault.BadFile which fault)) r
    → r ≡ Err (load_fault.BadFile which fault)
file_due (Ok a) which fault e = absurd (cc e)
file_due (Err own) which fault e = cc

abbrev loads_of : (line : List (List ℕ)) (told : Told) (names : FileNames) (reads : Reads) (loaded : Result Loaded LoadFault)
    → check_command line ≡ Ok names → AreRead told names reads → load_of names reads ≡ loaded → Loads line told loaded
loads_of line told names reads loaded c r l = record {
  names = names;
  command = c;
  reads = reads;
  read = r;
  load = l;
}

-- files that are not loaded are refused so
pub load_refused : (line : List (List ℕ)) (files : FilesPort) (names : FileNames) (reads : Reads) (fault : LoadFault) → check_command line ≡ Ok names
    → AreRead files.before.told names reads → load.Gives (Err fault) (load_of names reads)
    → load.HasCause {A = Loaded} names files.before.faults files.after.faults files.before.failed files.after.failed (Err fault)
    → IsRefused line files (status_of_load fault) (why_of_load names fault)
load_refused line files names reads (load_fault.ReadFault which) c r h cause =
    let e : load_of names reads ≡ Err (load_fault.ReadFault which) = read_due _ which h in
    (cause.0, (which, loads_of line files.before.told names reads (Err (load_fault.ReadFault which)) c r e, cause.1, refl))
load_refused line files names reads (load_fault.BadFile which fault) c r h cause =
    let e : load_of names reads ≡ Err (load_fault.BadFile which fault) = file_due _ which fault h in
    inr (which, fault, loads_of line files.before.told names reads (Err (load_fault.BadFile which fault)) c r e, refl)
load_refused line files names reads load_fault.NoMemory c r h cause = tt
