-- A run of the command `check` that is followed by a summary, where its words ask for one.
use Rattle.std.specs.Prelude.{◌≡◌, ℕ, Bool, true, false, List, Option}
use Rattle.std.specs.Io.KnownBytes.{Appends}
use Rattle.check_command.specs.Run.{Run, why_of}
use Rattle.check_command.specs.Words.{asks_summary}
use Rattle.check_command.specs.declared.check.Checked.{Checked}
use Rattle.front_ports.specs.Written.{AppendsFront}
use Rattle.command_ends.specs.Ports.{FilesPort, HasFailed, IsSound, IsUntouched, Port, State}
use Rattle.command_ends.specs.declared.status.Status.{Status}
use Rattle.command_ends.specs.declared.status.Status.TheVariants.{Done, WriteFault, NoMemory}
use Rattle.refusal_text.specs.declared.refusal.Refusal.{Refusal}

-- a summary was written, or a prefix of it where a write failed, or nothing where memory ran out
abbrev pub AddsSummary : Port → Status → Type 0
AddsSummary output Done = ((text : List ℕ) × Appends output.before.told output.after.told text) × IsSound output
AddsSummary output WriteFault = ((text : List ℕ) × AppendsFront output.before.told output.after.told text) × HasFailed output
AddsSummary output NoMemory = IsUntouched output
AddsSummary output _ = ⊥

-- nothing is written any more
pub record EndsSo (answered : Status) (told : Option Refusal) (output : Port) (status : Status) (why : Option Refusal) : Type 0 where
  pub untouched : IsUntouched output
  pub status_is : status ≡ answered
  pub why_is : why ≡ told

-- what is done after a run that ended so: a summary is added to the answer of a log that conforms, and to no other one
abbrev pub Follows : Status → Option Refusal → Port → Status → Option Refusal → Type 0
Follows Done told output status why = AddsSummary output status × (why ≡ why_of status)
Follows answered told output status why = EndsSo answered told output status why

abbrev pub FollowsIf : Bool → Status → Option Refusal → Port → Status → Option Refusal → Type 0
FollowsIf false answered told output status why = EndsSo answered told output status why
FollowsIf true answered told output status why = Follows answered told output status why

-- a run, up to its answer, and what follows
pub record RunSummed (words : List (List ℕ)) (files : FilesPort) (input output : Port) (status : Status) (why : Option Refusal) (checked : Option Checked) : Type 0 where
  pub middle : State
  pub answered : Status
  pub told : Option Refusal
  pub run : Run words files input (record { before = output.before; after = middle }) answered told checked
  pub follows : FollowsIf (asks_summary words) answered told (record { before = middle; after = output.after }) status why
