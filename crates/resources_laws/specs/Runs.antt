-- Runs of `resources` that wrote all lines, and later runs that begin with what was written.
use Rattle.std.specs.Prelude.{◌≡◌, ◌≢◌, ℕ, ◌<◌, ◌⊎◌, Bool, List, [], length, Option, Some, None, Ok}
use Rattle.command_ends.specs.Ports.{AreSound, FilesPort, IsUntouched, Port}
use Rattle.command_ends.specs.declared.status.Status.{Status}
use Rattle.command_ends.specs.declared.status.Status.TheVariants.{NoMemory}
use Rattle.front_base.specs.declared.file.TheConstants.{MOST_FILE_BYTES}
use Rattle.front_ports.specs.FileMap.{file_of}
use Rattle.group_resources.specs.Lines.{IsDocument}
use Rattle.group_resources.specs.declared.line.MergedLine.{MergedLine}
use Rattle.refusal_text.specs.declared.refusal.Refusal.{Refusal}
use Rattle.resources_command.specs.Config.{Configures, IsRefused}
use Rattle.resources_command.specs.Run.{Merges, MergesTo, NotesState, Run, end_of, merged, order, why_of}
use Rattle.resources_command.specs.Words.{resources_command}
use Rattle.resources_command.specs.declared.previous.PreviousFault.{PreviousFault}
use Rattle.resources_command.specs.declared.previous.PreviousFault.TheVariants.{NotRead, TooLong, BadLine}
use Rattle.resources_command.specs.declared.previous.PreviousRefusal.{PreviousRefusal}
use Rattle.resources_command.specs.declared.settings.Settings.{Settings}
use Rattle.resources_command.specs.declared.words.ResourcesWords.{ResourcesWords}
use Rattle.service_calls.specs.Calls.{DialState}

-- what a run began with, what it left, and how it ended
pub record Ran : Type 0 where
  pub words : List (List ℕ)
  pub files : FilesPort
  pub dial : DialState
  pub dialed : DialState
  pub output : Port
  pub notes : NotesState
  pub status : Status
  pub why : Option Refusal
  pub previous : Option PreviousRefusal

abbrev pub IsRun : Ran → Type 0
IsRun ran = Run ran.words ran.files ran.dial ran.dialed ran.output ran.notes ran.status ran.why ran.previous

-- it ended as one does that wrote all lines, and its output, which was empty, has these bytes
pub record Wrote (ran : Ran) (bytes : List ℕ) : Type 0 where
  pub run : IsRun ran
  pub listed : Bool
  pub ended : ran.status ≡ end_of listed
  pub empty : ran.output.before.told ≡ Some []
  pub whole : ran.output.after.told ≡ Some bytes

-- the bytes are the document of the lines that were merged
pub record WroteDocument (ran : Ran) (bytes : List ℕ) : Type 0 where
  pub settings : Settings
  pub configures : Configures ran.words ran.files.before.told settings
  pub listed : Bool
  pub merges : Merges settings (order settings) listed ran.dial ran.dialed ran.output ran.notes
  pub document : IsDocument bytes (merged settings.previous (order settings) merges.gots)

-- its words name a file with these bytes as its earlier document
pub record BeginsWith (ran : Ran) (bytes : List ℕ) : Type 0 where
  pub own : ResourcesWords
  pub command : resources_command ran.words ≡ Ok own
  pub name : List ℕ
  pub named : own.previous ≡ Some name
  pub held : List (List ℕ × List ℕ)
  pub told : ran.files.before.told ≡ Some held
  pub has : file_of name held ≡ Some bytes

-- why the file with these bytes may be refused: it could not be read, or has more bytes than may be read
abbrev pub MayBeRefused : List ℕ → PreviousFault → Type 0
MayBeRefused bytes NotRead = Unit {0}
MayBeRefused bytes TooLong = MOST_FILE_BYTES < length bytes
MayBeRefused bytes (BadLine at) = ⊥

-- it was refused before anything was asked or written, and, where memory suffices, not for what the earlier document's lines are
pub record WasRefused (ran : Ran) (bytes : List ℕ) : Type 0 where
  pub refused : IsRefused ran.words ran.files ran.status ran.why ran.previous
  pub previous : (own : PreviousRefusal) → ran.status ≢ NoMemory → ran.previous ≡ Some own → MayBeRefused bytes own.fault
  pub asked : ran.dialed ≡ ran.dial
  pub untouched : IsUntouched ran.output
  pub noted : ran.notes.after ≡ ran.notes.before

-- it asked the servers, and its earlier document was these lines
pub record RanFrom (ran : Ran) (lines : List MergedLine) : Type 0 where
  pub settings : Settings
  pub configures : Configures ran.words ran.files.before.told settings
  pub previous_is : settings.previous ≡ lines
  pub sound : AreSound ran.files
  pub merges : MergesTo settings (order settings) ran.dial ran.dialed ran.output ran.notes ran.status
  pub why_is : ran.why ≡ why_of ran.status
  pub nothing : ran.previous ≡ None

abbrev pub GoesOn : Ran → List ℕ → List MergedLine → Type 0
GoesOn ran bytes lines = WasRefused ran bytes ⊎ RanFrom ran lines
