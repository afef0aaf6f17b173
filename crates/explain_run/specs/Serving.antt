-- What a run over the requests of an input writes, and how it ends.
use Rattle.std.specs.Prelude.{◌≡◌, ℕ, ◌≤◌, ◌⊎◌, List, [], ◌∷◌, ◌++◌, length, Option, Some, None, IfSome}
use Rattle.std.specs.Io.KnownBytes.{Appends, Consumes}
use Rattle.apiservice_rows.specs.Row.{Row}
use Rattle.front_base.specs.declared.audit_id.TheConstants.{MOST_REQUESTS}
use Rattle.front_ports.specs.Written.{AppendsFront}
use Rattle.http_edge.specs.Requests.{IsRequests, IsUnfinished, ReadsTo, StartsWith, asks, on_asks}
use Rattle.http_edge.specs.declared.request.End.{End}
use Rattle.http_edge.specs.declared.request.End.TheVariants as end_case
use Rattle.http_edge.specs.declared.request.Request.{Request}
use Rattle.http_edge.specs.declared.request.Stop.{Stop}
use Rattle.http_edge.specs.declared.request.Stop.TheVariants as stop_case
use Rattle.explain_run.specs.Lines.{AreLines, rows_after_all}
use Rattle.command_ends.specs.Ports.{Port, HasFailed, IsSound}
use Rattle.explain_run.specs.declared.setup.Setup.{Setup}
use Rattle.command_ends.specs.declared.status.Status.{Status}
use Rattle.command_ends.specs.declared.status.Status.TheVariants.{Done, ReadFault, NoMemory, WriteFault, NumbersSpent, Input}

-- the bytes begin with these requests
abbrev pub FirstOf : List ℕ → List Request → Type 0
FirstOf bytes [] = Unit {0}
FirstOf bytes (r ∷ rs) = (after : List ℕ) × StartsWith bytes r after × on_asks (asks r) (rs ≡ []) (FirstOf after rs)

-- bytes that are told begin with these
abbrev pub BeginsWith : Option (List ℕ) → List ℕ → Type 0
BeginsWith None taken = Unit {0}
BeginsWith (Some bytes) taken = (rest : List ℕ) × (bytes ≡ taken ++ rest)

-- all requests of the input, which end so, their lines, and how many of their events are too large. `taken` is what was read of it
pub record ServedAll (set : Setup) (rows : List Row) (input output : Port) (large : ℕ) (end : End) : Type 0 where
  pub requests : List Request
  pub few : length requests ≤ MOST_REQUESTS
  pub taken : List ℕ
  pub consumed : Consumes input.before.told input.after.told taken
  pub list : IsRequests taken requests end
  pub whole : IfSome input.before.told (λ bytes. IsRequests bytes requests end)
  pub text : List ℕ
  pub lines : AreLines set 0 rows requests text large
  pub written : Appends output.before.told output.after.told text

-- the requests that stand whole in the bytes taken, and their lines
pub record ServedTaken (set : Setup) (rows : List Row) (input output : Port) (large : ℕ) : Type 0 where
  pub requests : List Request
  pub few : length requests ≤ MOST_REQUESTS
  pub taken : List ℕ
  pub rest : List ℕ
  pub consumed : Consumes input.before.told input.after.told taken
  pub reads : ReadsTo taken requests rest
  pub awaits : IsUnfinished rest
  pub text : List ℕ
  pub lines : AreLines set 0 rows requests text large
  pub written : Appends output.before.told output.after.told text

-- the first 2^48 requests, which have all numbers, and their lines; one more stands next
pub record ServedMost (set : Setup) (rows : List Row) (input output : Port) (large : ℕ) : Type 0 where
  pub requests : List Request
  pub next : Request
  pub taken : List ℕ
  pub consumed : Consumes input.before.told input.after.told taken
  pub first : FirstOf taken (requests ++ next ∷ [])
  pub whole : IfSome input.before.told (λ bytes. FirstOf bytes (requests ++ next ∷ []))
  pub all : length requests ≡ MOST_REQUESTS
  pub text : List ℕ
  pub lines : AreLines set 0 rows requests text large
  pub written : Appends output.before.told output.after.told text

-- a prefix of the lines of the first requests of the bytes taken, which are the first of the input
pub record ServedFront (set : Setup) (rows : List Row) (input output : Port) (large : ℕ) : Type 0 where
  pub requests : List Request
  pub few : length requests ≤ MOST_REQUESTS
  pub taken : List ℕ
  pub begins : BeginsWith input.before.told taken
  pub first : FirstOf taken requests
  pub text : List ℕ
  pub lines : AreLines set 0 rows requests text large
  pub written : AppendsFront output.before.told output.after.told text

-- the status by which an end of the list of requests is told
abbrev pub status_of : End → Status
status_of end_case.Ended = Done
status_of end_case.Asked = Done
status_of _ = Input

-- what each status says, the others being none that this run has. The first request is answered by these rows, and so many
-- events are too large
abbrev pub Serves : Setup → List Row → Port → Port → ℕ → Status → Type 0
Serves set rows input output large Done =
    (end : End) × (status_of end ≡ Done) × ServedAll set rows input output large end × IsSound input × IsSound output
Serves set rows input output large Input =
    (end : End) × (status_of end ≡ Input) × ServedAll set rows input output large end × IsSound input × IsSound output
Serves set rows input output large ReadFault = HasFailed input × ServedTaken set rows input output large
Serves set rows input output large WriteFault = HasFailed output × ServedFront set rows input output large
Serves set rows input output large NumbersSpent = ServedMost set rows input output large
Serves set rows input output large NoMemory = ServedFront set rows input output large
Serves set rows input output large _ = ⊥

-- ---- what the calls within a run do

-- how a run ends where it comes to a stop
abbrev pub status_of_stop : Stop → Status
status_of_stop (stop_case.Refused end) = status_of end
status_of_stop stop_case.ReadFault = ReadFault
status_of_stop stop_case.NoMemory = NoMemory

-- the last lines were written, or a prefix of them where a write failed
abbrev pub Closes : Port → List ℕ → Status → Status → Type 0
Closes output text status result =
    ((result ≡ status) × Appends output.before.told output.after.told text × IsSound output)
    ⊎ ((result ≡ WriteFault) × HasFailed output × AppendsFront output.before.told output.after.told text)

-- a prefix of the lines was written, and this is left
pub record Spilled (w0 w : Option (List ℕ)) (old new : List ℕ) : Type 0 where
  pub front : List ℕ
  pub split : old ≡ front ++ new
  pub written : Appends w0 w front

-- so far: these requests were read from the bytes taken, and these bytes are held; a part of their lines was written, and
-- the other part is pending; so many of their events are too large; these are the rows now. `left0`, `left`, `w0` and `w` are what source and sink told at first
-- and tell now
pub record Served (set : Setup) (rows rows_now : List Row) (left0 left : Option (List ℕ)) (held : List ℕ) (w0 w : Option (List ℕ)) (pending : List ℕ) (number large : ℕ) : Type 0 where
  pub requests : List Request
  pub taken : List ℕ
  pub consumed : Consumes left0 left taken
  pub reads : ReadsTo taken requests held
  pub count : length requests ≡ number
  pub few : length requests ≤ MOST_REQUESTS
  pub sent : List ℕ
  pub written : Appends w0 w sent
  pub lines : AreLines set 0 rows requests (sent ++ pending) large
  pub stands : rows_now ≡ rows_after_all set rows requests
