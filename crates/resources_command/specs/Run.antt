-- A run of the command `resources`.
use Rattle.std.specs.Prelude.{◌≡◌, ℕ, ◌⊎◌, Bool, true, false, List, [], ◌∷◌, ◌++◌, map, take, drop, Option, Some, None}
use Rattle.std.specs.Io.KnownBytes.{Appends}
use Rattle.front_ports.specs.Told.{Adds}
use Rattle.front_ports.specs.Written.{AppendsFront}
use Rattle.group_resources.specs.Lines.{document, line_text}
use Rattle.group_resources.specs.Merged.{merged_of}
use Rattle.group_resources.specs.declared.line.MergedLine.{MergedLine}
use Rattle.command_ends.specs.Ports.{AreSound, FilesPort, HasFailed, IsSound, IsUntouched, Port}
use Rattle.command_ends.specs.declared.status.Status.{Status}
use Rattle.command_ends.specs.declared.status.Status.TheVariants.{Done, NoMemory, NothingListed, WriteFault}
use Rattle.refusal_text.specs.declared.refusal.Refusal.{Refusal}
use Rattle.refusal_text.specs.declared.refusal.Refusal.TheVariants as refusal
use Rattle.resource_fetch.specs.Fetched.{Asking, Fetches, StopsFetching, listed_in}
use Rattle.resource_fetch.specs.declared.listing.Listing.{Listing}
use Rattle.resource_fetch.specs.declared.listing.Listing.TheVariants.{NotAsked}
use Rattle.resources_command.specs.Config.{Configures, IsRefused}
use Rattle.resources_command.specs.Notes.{Unlisted, any_listed, is_listed, note_of}
use Rattle.resources_command.specs.Order.{asked_of, name_of, order_of}
use Rattle.resources_command.specs.declared.group_versions.GroupVersion.{GroupVersion}
use Rattle.resources_command.specs.declared.previous.PreviousRefusal.{PreviousRefusal}
use Rattle.resources_command.specs.declared.run.LineStop.{LineStop}
use Rattle.resources_command.specs.declared.run.LineStop.TheVariants as stop
use Rattle.resources_command.specs.declared.settings.Settings.{Settings}
use Rattle.service_calls.specs.Calls.{DialState}

-- a server was asked and this came of it, or none is to be asked and nobody was
abbrev pub FetchesIf : Option Asking → DialState → DialState → Listing → Type 0
FetchesIf None m n got = (n ≡ m) × (got ≡ NotAsked)
FetchesIf (Some own) m n got = Fetches own m n got

-- servers were asked one after another, and this came of each
abbrev pub FetchesAll : List (Option Asking) → DialState → DialState → List Listing → Type 0
FetchesAll [] m n [] = n ≡ m
FetchesAll [] m n (got ∷ gots) = ⊥
FetchesAll (own ∷ others) m n [] = ⊥
FetchesAll (own ∷ others) m n (got ∷ gots) = (k : DialState) × FetchesIf own m k got × FetchesAll others k n gots

-- memory ran out before a server was asked, or at it
abbrev pub StopsIf : Option Asking → DialState → DialState → Type 0
StopsIf None m n = n ≡ m
StopsIf (Some own) m n = StopsFetching own m n

-- the same of the first of these
abbrev pub StopsAt : List (Option Asking) → DialState → DialState → Type 0
StopsAt [] m n = n ≡ m
StopsAt (own ∷ others) m n = StopsIf own m n

-- the lines of group versions, by what came of each and by an earlier document
abbrev pub merged : List MergedLine → List GroupVersion → List Listing → List MergedLine
merged previous [] gots = []
merged previous (own ∷ others) [] = []
merged previous (own ∷ others) (got ∷ gots) = merged_of (name_of own) (listed_in got) previous ∷ merged previous others gots

-- what is told of those that were not listed
abbrev pub unlisted : List GroupVersion → List Listing → List Unlisted
unlisted [] gots = []
unlisted (own ∷ others) [] = []
unlisted (own ∷ others) (got ∷ gots) = note_of own got ++ unlisted others gots

abbrev pub asked : Settings → List GroupVersion → List (Option Asking)
asked settings own = map (asked_of settings.table.rows settings.endpoints) own

abbrev pub order : Settings → List GroupVersion
order settings = order_of settings.table.rows

-- what was noted before a run, and after it
pub record NotesState : Type 0 where
  pub before : Option (List Unlisted)
  pub after : Option (List Unlisted)

-- all these group versions were asked for, and one of them was listed, or none. Their document was written, and it was noted why the others
-- were not listed
pub record Merges (settings : Settings) (all : List GroupVersion) (listed : Bool) (m n : DialState) (output : Port) (notes : NotesState) : Type 0 where
  pub gots : List Listing
  pub fetches : FetchesAll (asked settings all) m n gots
  pub writes : Appends output.before.told output.after.told (document (merged settings.previous all gots))
  pub noted : Adds notes.before notes.after (unlisted all gots)
  pub listed_is : any_listed gots ≡ listed
  pub sound : IsSound output

-- so many were asked for, and a prefix of their lines was written
pub record MergesPart (settings : Settings) (all : List GroupVersion) (m n : DialState) (output : Port) : Type 0 where
  pub count : ℕ
  pub gots : List Listing
  pub reached : DialState
  pub fetches : FetchesAll (asked settings (take count all)) m reached gots
  pub stops : StopsAt (asked settings (drop count all)) reached n
  pub writes : AppendsFront output.before.told output.after.told (document (merged settings.previous (take count all) gots))

-- what each status says, the others being none that this run has
abbrev pub MergesTo : Settings → List GroupVersion → DialState → DialState → Port → NotesState → Status → Type 0
MergesTo settings all m n output notes Done = Merges settings all true m n output notes
MergesTo settings all m n output notes NothingListed = Merges settings all false m n output notes
MergesTo settings all m n output notes WriteFault = HasFailed output × MergesPart settings all m n output
MergesTo settings all m n output notes NoMemory = MergesPart settings all m n output
MergesTo settings all m n output notes _ = ⊥

abbrev pub why_of : Status → Option Refusal
why_of WriteFault = Some refusal.Output
why_of _ = None

-- a run: it is refused before anything is asked or written, or the files say this and the servers are asked
abbrev pub Run : List (List ℕ) → FilesPort → DialState → DialState → Port → NotesState → Status → Option Refusal → Option PreviousRefusal → Type 0
Run words files m n output notes status why previous =
    (IsRefused words files status why previous × (n ≡ m) × IsUntouched output × (notes.after ≡ notes.before))
    ⊎ ((settings : Settings) × Configures words files.before.told settings × AreSound files
    × MergesTo settings (order settings) m n output notes status
    × (why ≡ why_of status) × (previous ≡ None))

-- ---- for private clauses

-- the line of one group version
abbrev pub line_for : Settings → GroupVersion → Listing → List ℕ
line_for settings own got = line_text (merged_of (name_of own) (listed_in got) settings.previous)

-- it was asked for, and its line was written; where it was not listed, that was noted
pub record WritesOne (settings : Settings) (own : GroupVersion) (m n : DialState) (w0 w1 : Option (List ℕ)) (o0 o1 : Option (List Unlisted))
    (listed : Bool) : Type 0 where
  pub got : Listing
  pub fetches : FetchesIf (asked_of settings.table.rows settings.endpoints own) m n got
  pub writes : Appends w0 w1 (line_for settings own got)
  pub noted : Adds o0 o1 (note_of own got)
  pub listed_is : is_listed got ≡ listed

-- it was asked for, and a prefix of its line was written
pub record CutsOne (settings : Settings) (own : GroupVersion) (m n : DialState) (w0 w1 : Option (List ℕ)) : Type 0 where
  pub got : Listing
  pub fetches : FetchesIf (asked_of settings.table.rows settings.endpoints own) m n got
  pub writes : AppendsFront w0 w1 (line_for settings own got)

-- by whether one of them was listed
abbrev pub end_of : Bool → Status
end_of true = Done
end_of false = NothingListed

-- why a line was not written
abbrev pub NotWritten : Settings → GroupVersion → DialState → DialState → Option (List ℕ) → Option (List ℕ) → Type 0 → LineStop → Type 0
NotWritten settings own m n w0 w1 rose stop.WriteFault = CutsOne settings own m n w0 w1 × rose
NotWritten settings own m n w0 w1 rose stop.NoMemory =
    (w1 ≡ w0) × (StopsIf (asked_of settings.table.rows settings.endpoints own) m n ⊎ CutsOne settings own m n w0 w1)

abbrev pub status_of : LineStop → Status
status_of stop.WriteFault = WriteFault
status_of stop.NoMemory = NoMemory
