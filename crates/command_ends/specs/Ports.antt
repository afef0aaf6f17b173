-- A port before and after a run.
use Rattle.std.specs.Prelude.{◌≡◌, ℕ, List, Option}
use Rattle.front_ports.specs.Cause.{Rose}

-- what a port tells, if it tells anything: a source the bytes that are left to read, a sink those that were written; and
-- how often a call of it failed
pub record State : Type 0 where
  pub told : Option (List ℕ)
  pub faults : ℕ

pub record Port : Type 0 where
  pub before : State
  pub after : State

abbrev pub port : Option (List ℕ) → ℕ → Option (List ℕ) → ℕ → Port
port told faults told_then faults_then = record {
  before = record { told = told; faults = faults };
  after = record { told = told_then; faults = faults_then };
}

-- files by their names, where they are told
abbrev pub Told : Type 0
Told = Option (List (List ℕ × List ℕ))

-- what files tell, the name of the last one that could not be read, where that is told, and how often one could not be read
pub record FilesState : Type 0 where
  pub told : Told
  pub failed : Option (Option (List ℕ))
  pub faults : ℕ

pub record FilesPort : Type 0 where
  pub before : FilesState
  pub after : FilesState

abbrev pub files_port : Told → Option (Option (List ℕ)) → ℕ → Told → Option (Option (List ℕ)) → ℕ → FilesPort
files_port told failed faults told_then failed_then faults_then = record {
  before = record { told = told; failed = failed; faults = faults };
  after = record { told = told_then; failed = failed_then; faults = faults_then };
}

-- a call of the port failed
abbrev pub HasFailed : Port → Type 0
HasFailed p = Rose p.before.faults p.after.faults

-- none failed
abbrev pub IsSound : Port → Type 0
IsSound p = p.after.faults ≡ p.before.faults

-- no file failed to be read
abbrev pub AreSound : FilesPort → Type 0
AreSound files = files.after.faults ≡ files.before.faults

-- nothing was read or written
abbrev pub IsUntouched : Port → Type 0
IsUntouched p = p.after ≡ p.before
