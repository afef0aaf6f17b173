-- Reading a document of merged resource lists, line after line.
use Rattle.std.specs.Prelude.{◌≡◌, ◌≢◌, ℕ, ◌-◌, ◌^◌, ◌<◌, ◌≤◌, min, Bool, true, false, if◌then◌else◌, List, [], ◌++◌, length, take, drop, codes, Option, Some, None, Result, Ok, Err}
use Rattle.std.specs.Str.{bytes_eq}
use Rattle.event_members.specs.TextMembers.{◌>>=◌, after_word, text_member_at}
use Rattle.event_members.specs.declared.fault.EventFault.{EventFault}
use Rattle.event_members.specs.declared.fault.EventFault.TheVariants as event
use Rattle.json_span.specs.Span.{place_reach, start}
use Rattle.group_resources.specs.Lines.{document, line_text, has_version, AreLines, IsDocument, IsLine}
use Rattle.group_resources.specs.declared.line.MergedLine.{MergedLine}
use Rattle.group_resources.specs.declared.line.State.{State}
use Rattle.group_resources.specs.declared.line.State.TheVariants.{Fresh, Stale, Missing}
use Rattle.group_resources.specs.declared.merged.MergedFault.{MergedFault}
use Rattle.group_resources.specs.declared.merged.MergedFault.TheVariants.{BadLine, NoMemory}
use Rattle.group_resources.specs.declared.reading.LineStop.{LineStop}
use Rattle.group_resources.specs.declared.reading.LineStop.TheVariants as stop

-- the bytes begin with the text of that line, and these come after it
abbrev pub StartsWith : List ℕ → MergedLine → List ℕ → Type 0
StartsWith bytes line after = bytes ≡ line_text line ++ after

-- lines of a document stand first, and no line that may follow them stands after them. `at` is the number of the line that is bad, from 0
pub record BadAt (bytes : List ℕ) (at : ℕ) : Type 0 where
  pub lines : List MergedLine
  pub rest : List ℕ
  pub split : bytes ≡ document lines ++ rest
  pub good : AreLines lines
  pub number : at ≡ min (length lines) (2 ^ 32 - 1)
  pub more : rest ≢ []
  pub none : (line : MergedLine) (after : List ℕ) → IsLine line → StartsWith rest line after → has_version line.group_version lines ≡ true

-- what reading a document answers
abbrev pub Answers : List ℕ → Result (List MergedLine) MergedFault → Type 0
Answers bytes (Ok lines) = IsDocument bytes lines
Answers bytes (Err (BadLine at)) = BadAt bytes at
Answers bytes (Err NoMemory) = Unit {0}

-- these lines were read, unless memory ran out
abbrev pub AreBack : List MergedLine → Result (List MergedLine) MergedFault → Type 0
AreBack lines (Ok read) = read ≡ lines
AreBack lines (Err (BadLine at)) = ⊥
AreBack lines (Err NoMemory) = Unit {0}

-- ---- one line. More texts are read than lines have: which text a line has is said by line_text

abbrev pub state_of : List ℕ → Option State
state_of word =
    if bytes_eq word (codes "fresh") then Some Fresh
    else if bytes_eq word (codes "stale") then Some Stale
    else if bytes_eq word (codes "missing") then Some Missing
    else None

unfoldable pub line_at : List ℕ → Option MergedLine
line_at bytes = do
  version ← text_member_at (codes "{\"groupVersion\":") bytes
  word ← text_member_at (codes "\"state\":") version.1
  value ← after_word (codes "\"resources\":") word.1
  state ← state_of word.0
  Some (record { group_version = version.0; state = state; resources = take (place_reach start value) value })

-- a test was answered, unless memory ran out
abbrev pub Tells : Type 0 → Result Bool EventFault → Type 0
Tells P (Ok true) = P
Tells P (Ok false) = P → ⊥
Tells P (Err event.NoMemory) = Unit {0}
Tells P (Err event.NotAnEvent) = ⊥

-- ---- for private clauses

-- so many bytes at the front are the text of that line
pub record Stands (bytes : List ℕ) (line : MergedLine) (size : ℕ) : Type 0 where
  pub is : IsLine line
  pub starts : StartsWith bytes line (drop size bytes)
  pub within : size ≤ length bytes
  pub some : 0 < size

-- no line stands first, unless memory ran out
abbrev pub NoneStands : List ℕ → EventFault → Type 0
NoneStands bytes event.NoMemory = Unit {0}
NoneStands bytes event.NotAnEvent = (line : MergedLine) (after : List ℕ) → IsLine line → StartsWith bytes line after → ⊥

-- none stands first that may follow these, unless memory ran out
abbrev pub NoneFollows : List ℕ → List MergedLine → LineStop → Type 0
NoneFollows bytes lines stop.NoMemory = Unit {0}
NoneFollows bytes lines stop.Bad =
    (line : MergedLine) (after : List ℕ) → IsLine line → StartsWith bytes line after → has_version line.group_version lines ≡ true

-- that line doesn't stand first, or is none that is written, unless memory ran out
abbrev pub NotAt : List ℕ → MergedLine → EventFault → Type 0
NotAt bytes line event.NoMemory = Unit {0}
NotAt bytes line event.NotAnEvent = (after : List ℕ) → IsLine line → StartsWith bytes line after → ⊥

-- what is answered after so many lines
abbrev pub IsFault : LineStop → ℕ → MergedFault → Type 0
IsFault stop.Bad count fault = fault ≡ BadLine (min count (2 ^ 32 - 1))
IsFault stop.NoMemory count fault = fault ≡ NoMemory
