-- A run of the command `probe`.
use Rattle.std.specs.Prelude.{◌≡◌, ◌⊎◌, ℕ, List, Option, Some, None, Result, Ok, Err, Bool, true, false}
use Rattle.apiservice_rows.specs.Row.{Row}
use Rattle.apiservice_table.specs.Table.{Table}
use Rattle.probe_command.specs.Config.{Configures, IsRefused}
use Rattle.probe_command.specs.Listing.{HasNone, HasTable, list_due}
use Rattle.probe_command.specs.declared.config.ProbeConfig.{ProbeConfig}
use Rattle.probe_command.specs.declared.ended.ProbeEnded.{ProbeEnded}
use Rattle.probe_command.specs.declared.listing.ListFault.{ListFault}
use Rattle.probe_command.specs.declared.listing.ListStop.{ListStop}
use Rattle.probe_command.specs.declared.listing.ListStop.TheVariants as list_stop
use Rattle.probe_rounds.specs.Standing.{OutTells, PaceTells, Probed, ProbedPart}
use Rattle.probe_rounds.specs.declared.plan.ProbePlan.{ProbePlan}
use Rattle.probe_rounds.specs.declared.stop.ProbeStop.{ProbeStop}
use Rattle.probe_rounds.specs.declared.stop.ProbeStop.TheVariants as stop_case
use Rattle.command_ends.specs.Ports.{AreSound, FilesPort, IsUntouched, Port, State}
use Rattle.command_ends.specs.declared.ended.Outcome.{Outcome}
use Rattle.command_ends.specs.declared.status.Status.{Status}
use Rattle.command_ends.specs.declared.status.Status.TheVariants.{Done, NoMemory, NotDelivered, NothingListed, WriteFault}
use Rattle.refusal_text.specs.declared.refusal.Refusal.{Refusal}
use Rattle.refusal_text.specs.declared.refusal.Refusal.TheVariants as refusal
use Rattle.service_calls.specs.Calls.{DialState, Due}

-- the token of the file, or else that of the words
abbrev pub token_of : Option (List ℕ) → Option (List ℕ) → Option (List ℕ)
token_of (Some token) in_words = Some token
token_of None in_words = in_words

-- what words and files tell a prober
abbrev pub plan_of : ProbeConfig → ProbePlan
plan_of config = record {
  endpoints = config.loaded.endpoints;
  front = config.words.front;
  token = token_of config.token config.words.token;
  rounds = config.words.rounds;
  every = config.words.every;
  threshold = config.words.threshold;
}

abbrev pub has_name : Option (List ℕ) → Bool
has_name None = false
has_name (Some name) = true

-- a file is named for the APIServices
abbrev pub is_named : ProbeConfig → Bool
is_named config = has_name config.words.files.services

-- the call that asks the front door for them
abbrev pub due_of : ProbeConfig → Due
due_of config = list_due config.words.front (token_of config.token config.words.token)

-- the rows whose services are probed, in the order of their names: those of the file where one is named, and else those of the list that the
-- first call gave
pub record Starts (config : ProbeConfig) (m n : DialState) (rows : List Row) : Type 0 where
  pub table : Table
  pub has : HasTable (due_of config) (is_named config) config.loaded.table m n table
  pub rows_are : rows ≡ table.rows

abbrev pub out_of : State → OutTells
out_of state = record { written = state.told; faults = state.faults }

-- rounds were made over these rows, after the call for them
pub record Made (config : ProbeConfig) (refused : Bool) (d0 d : DialState) (output : Port) (k0 k : PaceTells) : Type 0 where
  pub rows : List Row
  pub reached : DialState
  pub starts : Starts config d0 reached rows
  pub probed : Probed (plan_of config) rows refused reached d (out_of output.before) (out_of output.after) k0 k

-- the same, but a prefix of them
pub record MadePart (config : ProbeConfig) (stop : ProbeStop) (d0 d : DialState) (output : Port) (k0 k : PaceTells) : Type 0 where
  pub rows : List Row
  pub reached : DialState
  pub starts : Starts config d0 reached rows
  pub probed : ProbedPart (plan_of config) rows stop reached d (out_of output.before) (out_of output.after) k0 k

-- there are no rows, and nothing was written
pub record HasNoRows (config : ProbeConfig) (own : ListStop) (d0 d : DialState) (output : Port) (k0 k : PaceTells) : Type 0 where
  pub none : HasNone (due_of config) (is_named config) d0 d own
  pub output_is : IsUntouched output
  pub pace_is : k ≡ k0

-- the front door gave no list, and this is told of it
abbrev pub IsUnlisted : ProbeConfig → DialState → DialState → Port → PaceTells → PaceTells → Option ListFault → Type 0
IsUnlisted config d0 d output k0 k unlisted =
    (fault : ListFault) × HasNoRows config (list_stop.Fault fault) d0 d output k0 k × (unlisted ≡ Some fault)

-- what each status says, the others being none that rounds of probes have: rounds were made, and the front door took what it was told of
-- each row last, or not of some row; or a prefix of them was made; or there are no rows
abbrev pub EndsBy : ProbeConfig → DialState → DialState → Port → PaceTells → PaceTells → Status → Option ListFault → Type 0
EndsBy config d0 d output k0 k Done unlisted = Made config false d0 d output k0 k × (unlisted ≡ None)
EndsBy config d0 d output k0 k NotDelivered unlisted = Made config true d0 d output k0 k × (unlisted ≡ None)
EndsBy config d0 d output k0 k WriteFault unlisted = MadePart config stop_case.WriteFault d0 d output k0 k × (unlisted ≡ None)
EndsBy config d0 d output k0 k NoMemory unlisted =
    (MadePart config stop_case.NoMemory d0 d output k0 k ⊎ HasNoRows config list_stop.NoMemory d0 d output k0 k) × (unlisted ≡ None)
EndsBy config d0 d output k0 k NothingListed unlisted = IsUnlisted config d0 d output k0 k unlisted
EndsBy config d0 d output k0 k _ unlisted = ⊥

-- the output that failed
abbrev pub why_of : Status → Option Refusal
why_of WriteFault = Some refusal.Output
why_of _ = None

abbrev pub Ends : ProbeConfig → DialState → DialState → Port → PaceTells → PaceTells → ProbeEnded → Type 0
Ends config d0 d output k0 k ended = EndsBy config d0 d output k0 k ended.status ended.unlisted × (ended.why ≡ why_of ended.status)

-- rounds were made as words and files told
pub record Probes (words : List (List ℕ)) (files tokens : FilesPort) (d0 d : DialState) (output : Port) (k0 k : PaceTells) (ended : ProbeEnded)
    : Type 0 where
  pub config : ProbeConfig
  pub configures : Configures words files.before.told tokens.before.told config
  pub files_are_sound : AreSound files
  pub ends : Ends config d0 d output k0 k ended

-- a run: it is refused before it dials, writes or asks the clock for anything, or it has its words and files
abbrev pub Run : List (List ℕ) → FilesPort → FilesPort → DialState → DialState → Port → PaceTells → PaceTells → ProbeEnded → Type 0
Run words files tokens d0 d output k0 k ended =
    (IsRefused words files tokens ended.status ended.why × (ended.unlisted ≡ None) × (d ≡ d0) × IsUntouched output × (k ≡ k0))
    ⊎ Probes words files tokens d0 d output k0 k ended

-- ---- for private clauses

abbrev pub status_of : Result Bool ProbeStop → Status
status_of (Ok false) = Done
status_of (Ok true) = NotDelivered
status_of (Err stop_case.WriteFault) = WriteFault
status_of (Err stop_case.NoMemory) = NoMemory

abbrev pub ended_by : Status → ProbeEnded
ended_by status = record { status = status; why = why_of status; unlisted = None }

abbrev pub ended_without : ListStop → ProbeEnded
ended_without (list_stop.Fault fault) = record { status = NothingListed; why = None; unlisted = Some fault }
ended_without list_stop.NoMemory = record { status = NoMemory; why = None; unlisted = None }

abbrev pub refused : Outcome → ProbeEnded
refused outcome = record { status = outcome.status; why = outcome.why; unlisted = None }
