-- How `resources` is refused by the files that its words name.
use Rattle.std.proofs.Common.{◌≡◌, ℕ, List, Option, Some, None, Result, Ok, Err, refl, sym, subst, inl, inr}
use Rattle.front_config.specs.Load as load
use Rattle.front_config.specs.Load.{Reads, AreRead, load_of}
use Rattle.front_config.specs.declared.fault.FileFault.{FileFault}
use Rattle.front_config.specs.declared.fault.LoadFault.{LoadFault}
use Rattle.front_config.specs.declared.fault.LoadFault.TheVariants as load_fault
use Rattle.front_config.specs.declared.fault.Which.{Which}
use Rattle.front_config.specs.declared.files.Loaded.{Loaded}
use Rattle.front_ports.specs.Cause.{Rose}
use Rattle.front_ports.specs.FileMap.{HasFile, HasLongFile, KeepsFiles}
use Rattle.group_resources.specs.declared.line.MergedLine.{MergedLine}
use Rattle.command_ends.specs.Ports.{FilesPort, FilesState, Told}
use Rattle.command_ends.specs.Why.{status_of_load, why_of_load}
use Rattle.command_ends.specs.declared.status.Status.{Status}
use Rattle.command_ends.specs.declared.status.Status.TheVariants as status_case
use Rattle.refusal_text.specs.declared.refusal.Refusal.{Refusal}
use Rattle.resources_command.specs.Config.{AreLoaded, BadPrevious, EndsWith, FilesEnd, HasPrevious, IsBadPrevious, PreviousEnds, UnreadPrevious}
use Rattle.resources_command.specs.Previous.{IsRefusedSo}
use Rattle.resources_command.specs.declared.previous.PreviousFault.{PreviousFault}
use Rattle.resources_command.specs.declared.previous.PreviousFault.TheVariants as previous_fault
use Rattle.resources_command.specs.declared.previous.PreviousRefusal.{PreviousRefusal}
use Rattle.resources_command.specs.declared.previous.PreviousStop.{PreviousStop}
use Rattle.resources_command.specs.declared.previous.PreviousStop.TheVariants as previous_stop
use Rattle.resources_command.specs.declared.words.ResourcesWords.{ResourcesWords}

-- ---- the other files

-- a fault that is answered is the one that is due, but for memory
read_due : (r : Result Loaded LoadFault) (which : Which) → load.Gives (Err (load_fault.ReadFault which)) r → r ≡ Err (load_fault.ReadFault which)
read_due (Ok a) which e = absurd (cc e)
read_due (Err own) which e = cc

file_due : (r : Result Loaded LoadFault) (which : Which) (fault : FileFault) → load.Gives (Err (load_fault.BadFile which fault)) r
    → r ≡ Err (load_fault.BadFile which fault)
file_due (Ok a) which fault e = absurd (cc e)
file_due (Err own) which fault e = cc

pub load_refused : (files : FilesPort) (own : ResourcesWords) (reads : Reads) (fault : LoadFault) → AreRead files.before.told own.names reads
    → load.Gives (Err fault) (load_of own.names reads)
    → load.HasCause {A = Loaded} own.names files.before.faults files.after.faults files.before.failed files.after.failed (Err fault)
    → FilesEnd own files (status_of_load fault) (why_of_load own.names fault) None
load_refused files own reads (load_fault.ReadFault which) r h cause = (
  cause.0,
  inl (record {
    which = which;
    loads = record { reads = reads; read = r; load = read_due (load_of own.names reads) which h };
    noted = cause.1;
    why_is = refl;
    nothing = refl;
  }),
)
load_refused files own reads (load_fault.BadFile which fault) r h cause =
    inl (record {
      which = which;
      fault = fault;
      loads = record { reads = reads; read = r; load = file_due (load_of own.names reads) which fault h };
      why_is = refl;
      nothing = refl;
    })
load_refused files own reads load_fault.NoMemory r h cause = tt

-- ---- the earlier document

pub previous_refused : (files : FilesPort) (name : List ℕ) (stop : PreviousStop) (status : Status) (why : Option Refusal) (previous : Option PreviousRefusal)
    → EndsWith name stop status why previous
    → IsRefusedSo files.before.told name files.before.faults files.after.faults files.before.failed files.after.failed stop
    → PreviousEnds (Some name) files status why previous
previous_refused files name (previous_stop.Refused previous_fault.NotRead) status why previous e h =
    subst (λ (s : Status). PreviousEnds (Some name) files s why previous) (sym e.0) (
      h.0,
      record {
        refused = record { name = name; fault = previous_fault.NotRead };
        named = refl;
        fault_is = refl;
        noted = h.1;
        why_is = e.1;
        previous_is = e.2;
      },
    )
previous_refused files name (previous_stop.Refused previous_fault.TooLong) status why previous e h =
    subst (λ (s : Status). PreviousEnds (Some name) files s why previous) (sym e.0) (record {
      refused = record { name = name; fault = previous_fault.TooLong };
      named = refl;
      bad = h;
      why_is = e.1;
      previous_is = e.2;
    })
previous_refused files name (previous_stop.Refused (previous_fault.BadLine at)) status why previous e h =
    subst (λ (s : Status). PreviousEnds (Some name) files s why previous) (sym e.0) (record {
      refused = record { name = name; fault = previous_fault.BadLine at };
      named = refl;
      bad = h;
      why_is = e.1;
      previous_is = e.2;
    })
previous_refused files name previous_stop.NoMemory status why previous e h =
    subst (λ (s : Status). PreviousEnds (Some name) files s why previous) (sym e) tt

-- ---- files stay as they are while others are read

has_file : (old mid : Told) → KeepsFiles old mid → (name bytes : List ℕ) → HasFile mid name bytes → HasFile old name bytes
has_file None mid k name bytes h = tt
has_file (Some files) mid k name bytes h = subst (λ (t : Told). HasFile t name bytes) k h

has_long : (old mid : Told) → KeepsFiles old mid → (name : List ℕ) → HasLongFile mid name → HasLongFile old name
has_long None mid k name h = tt
has_long (Some files) mid k name h = subst (λ (t : Told). HasLongFile t name) k h

pub has_previous : (old mid : Told) → KeepsFiles old mid → (name : Option (List ℕ)) (lines : List MergedLine) → HasPrevious mid name lines
    → HasPrevious old name lines
has_previous old mid k None lines h = h
has_previous old mid k (Some name) lines h = (h.0, has_file old mid k name h.0 h.1, h.2)

is_bad : (old mid : Told) → KeepsFiles old mid → (name : List ℕ) (fault : PreviousFault) → IsBadPrevious mid name fault → IsBadPrevious old name fault
is_bad old mid k name previous_fault.NotRead h = h
is_bad old mid k name previous_fault.TooLong h = has_long old mid k name h
is_bad old mid k name (previous_fault.BadLine at) h = (h.0, has_file old mid k name h.0 h.1, h.2)

bad_previous : (old mid : Told) → KeepsFiles old mid → (name : Option (List ℕ)) (why : Option Refusal) (previous : Option PreviousRefusal)
    → BadPrevious mid name why previous → BadPrevious old name why previous
bad_previous old mid k name why previous h = record {
  refused = h.refused;
  named = h.named;
  bad = is_bad old mid k h.refused.name h.refused.fault h.bad;
  why_is = h.why_is;
  previous_is = h.previous_is;
}

-- the earlier document is refused, after the other files were loaded
pub refused_after : (own : ResourcesWords) (before mid after : FilesState) (status : Status) (why : Option Refusal) (previous : Option PreviousRefusal)
    → KeepsFiles before.told mid.told → mid.faults ≡ before.faults → mid.failed ≡ before.failed → AreLoaded before.told own
    → PreviousEnds own.previous (record { before = mid; after = after }) status why previous
    → FilesEnd own (record { before = before; after = after }) status why previous
refused_after own before mid after status_case.Configuration why previous k f n l h =
    inr (l, bad_previous before.told mid.told k own.previous why previous h)
refused_after own before mid after status_case.ReadFault why previous k f n l h = (
  subst (λ (faults : ℕ). Rose faults after.faults) f h.0,
  inr (l, subst (λ (failed : Option (Option (List ℕ))). UnreadPrevious failed after.failed own.previous why previous) n h.1),
)
refused_after own before mid after status_case.NoMemory why previous k f n l h = tt
refused_after own before mid after status_case.Done why previous k f n l h = h
refused_after own before mid after status_case.Usage why previous k f n l h = h
refused_after own before mid after status_case.PortFault why previous k f n l h = h
refused_after own before mid after status_case.WriteFault why previous k f n l h = h
refused_after own before mid after status_case.NumbersSpent why previous k f n l h = h
refused_after own before mid after status_case.Input why previous k f n l h = h
refused_after own before mid after status_case.Log why previous k f n l h = h
refused_after own before mid after status_case.NotDelivered why previous k f n l h = h
refused_after own before mid after status_case.NothingListed why previous k f n l h = h
