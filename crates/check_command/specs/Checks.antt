-- How far a log conforms to a policy, up to its first line that doesn't.
use Rattle.std.specs.Prelude.{◌≡◌, ◌≢◌, ◌≤◌, ◌<◌, ◌+◌, ◌⊎◌, ℕ, Bool, true, false, List, [], ◌∷◌, ◌++◌, length, Option, Some, None, Err}
use Rattle.std.specs.Io.KnownBytes.{Consumes, IsAtEnd}
use Rattle.std.specs.List.{AllByRecursion}
use Rattle.audit_check.specs.Conforms.{AllConform, Conforms, HasAccepted, Judges}
use Rattle.audit_check.specs.Seen.{Checked}
use Rattle.audit_check.specs.declared.fault.LineFault.{LineFault}
use Rattle.audit_check.specs.declared.fault.LineFault.TheVariants as fault
use Rattle.front_base.specs.declared.audit_id.TheConstants.{MOST_REQUESTS}
use Rattle.front_base.specs.declared.line.TheConstants.{MOST_LINE_BYTES}
use Rattle.check_command.specs.declared.check.CheckEnd.{CheckEnd}
use Rattle.check_command.specs.declared.check.CheckEnd.TheVariants.{Done, Refused, Cut, ReadFault, NumbersSpent, NoMemory}
use Rattle.check_command.specs.declared.next.Next.{Next}
use Rattle.check_command.specs.declared.next.Next.TheVariants as next
use Rattle.log_lines.specs.Seen.{Seen}
use Rattle.log_lines.specs.Lines.{HasNoFeed, HoldsLine, ReadsLines, StartsTooLong, StartsWithLine}
use Rattle.log_lines.specs.declared.buffer.ReadStop.TheVariants as read_stop
use Rattle.log_lines.specs.declared.next.LineStop.{LineStop}
use Rattle.log_lines.specs.declared.next.LineStop.TheVariants as line_stop
use Rattle.policy_rules.specs.declared.policy.Policy.{Policy}

-- lines that are not too long
abbrev pub AreShort : List (List ℕ) → Type 0
AreShort lines = AllByRecursion (λ line. length line ≤ MOST_LINE_BYTES) lines

-- the bytes taken begin with so many lines, each of which conforms after those before it, and this is what comes after them
pub record Conformed (policy : Policy) (left0 left : Option (List ℕ)) (count : ℕ) (rest : List ℕ) : Type 0 where
  pub lines : List (List ℕ)
  pub taken : List ℕ
  pub consumed : Consumes left0 left taken
  pub reads : ReadsLines taken lines rest
  pub short : AreShort lines
  pub conform : AllConform policy [] lines
  pub count_is : length lines ≡ count
  pub few : count ≤ MOST_REQUESTS

-- the line is refused for this reason after those
abbrev pub IsFault : Policy → List (List ℕ) → List ℕ → LineFault → Type 0
IsFault policy lines line why = (length line ≤ MOST_LINE_BYTES) × (why ≢ fault.NoMemory) × Judges policy lines line (Err why)

-- the next line is refused for this reason: it is whole and judged so; or its form is wrong, since it has too many bytes
abbrev pub IsRefused : Policy → List (List ℕ) → List ℕ → LineFault → Type 0
IsRefused policy lines rest why =
    ((line : List ℕ) × (after : List ℕ) × StartsWithLine rest line after × IsFault policy lines line why)
    ⊎ (StartsTooLong rest × (why ≡ fault.Form))

-- the log ends within a line
abbrev pub IsCut : Option (List ℕ) → List ℕ → Type 0
IsCut left rest = (rest ≢ []) × HasNoFeed rest × IsAtEnd left

-- how far the log of an input conforms, and why no further. With `Done` these lines are the whole log
abbrev pub Checks : Policy → Option (List ℕ) → Option (List ℕ) → Type 0 → ℕ → CheckEnd → Type 0
Checks policy left0 left rose count Done = Conformed policy left0 left count [] × IsAtEnd left
Checks policy left0 left rose count (Refused why) =
    (rest : List ℕ) × (c : Conformed policy left0 left count rest) × (count < MOST_REQUESTS) × IsRefused policy c.lines rest why
Checks policy left0 left rose count Cut = (rest : List ℕ) × Conformed policy left0 left count rest × (count < MOST_REQUESTS) × IsCut left rest
Checks policy left0 left rose count ReadFault = (rest : List ℕ) × Conformed policy left0 left count rest × HasNoFeed rest × rose
Checks policy left0 left rose count NumbersSpent =
    (rest : List ℕ) × Conformed policy left0 left count rest × (count ≡ MOST_REQUESTS) × (rest ≢ [])
Checks policy left0 left rose count NoMemory = (then : Option (List ℕ)) × (rest : List ℕ) × Conformed policy left0 then count rest

-- the count of faults stays, but where a read failed
abbrev pub KeepsCount : ℕ → ℕ → CheckEnd → Type 0
KeepsCount before after ReadFault = Unit {0}
KeepsCount before after _ = after ≡ before

-- ---- for private clauses

abbrev pub refused : ℕ → LineFault → Next
refused len fault.NoMemory = next.End NoMemory
refused len why = next.Refused len why

abbrev pub end_of : LineStop → Bool → Bool → CheckEnd
end_of line_stop.TooLong true more = NumbersSpent
end_of line_stop.TooLong false more = Refused fault.Form
end_of (line_stop.Input read_stop.AtEnd) spent false = Done
end_of (line_stop.Input read_stop.AtEnd) true true = NumbersSpent
end_of (line_stop.Input read_stop.AtEnd) false true = Cut
end_of (line_stop.Input read_stop.ReadFault) spent more = ReadFault
end_of (line_stop.Input read_stop.NoMemory) spent more = NoMemory

-- a line stood next, which conforms and is accepted; these bytes are held after it
pub record Accepts (policy : Policy) (before : List (List ℕ)) (left0 left : Option (List ℕ)) (held0 held : List ℕ) (spent : Bool) (checked : Checked) : Type 0 where
  pub bytes : List ℕ
  pub seen : Seen left0 left held0 bytes
  pub line : List ℕ
  pub starts : StartsWithLine bytes line held
  pub short : length line ≤ MOST_LINE_BYTES
  pub conforms : Conforms policy before line
  pub accepted : HasAccepted policy (before ++ line ∷ []) checked
  pub few : spent ≡ false

-- a line of so many bytes stands next, which is refused for this reason and still held
pub record Refuses (policy : Policy) (before : List (List ℕ)) (left0 left : Option (List ℕ)) (held0 held : List ℕ) (spent : Bool) (len : ℕ) (why : LineFault) : Type 0 where
  pub holds : HoldsLine left0 left held0 held len
  pub is_fault : IsFault policy before holds.line why
  pub few : spent ≡ false

-- none was judged, and these bytes are held
abbrev pub EndsNext : Policy → List (List ℕ) → Option (List ℕ) → Option (List ℕ) → List ℕ → List ℕ → Bool → Type 0 → CheckEnd → Type 0
EndsNext policy before left0 left held0 held spent rose Done = Seen left0 left held0 held × (held ≡ []) × IsAtEnd left
EndsNext policy before left0 left held0 held spent rose (Refused why) =
    Seen left0 left held0 held × (spent ≡ false) × StartsTooLong held × (why ≡ fault.Form)
EndsNext policy before left0 left held0 held spent rose Cut = Seen left0 left held0 held × (spent ≡ false) × IsCut left held
EndsNext policy before left0 left held0 held spent rose ReadFault = Seen left0 left held0 held × HasNoFeed held × rose
EndsNext policy before left0 left held0 held spent rose NumbersSpent = Seen left0 left held0 held × (spent ≡ true) × (held ≢ [])
EndsNext policy before left0 left held0 held spent rose NoMemory = Unit {0}

abbrev pub ChecksNext : Policy → List (List ℕ) → Option (List ℕ) → Option (List ℕ) → List ℕ → List ℕ → Bool → Type 0 → Checked → Next → Type 0
ChecksNext policy before left0 left held0 held spent rose checked next.Accepted = Accepts policy before left0 left held0 held spent checked
ChecksNext policy before left0 left held0 held spent rose checked (next.Refused len why) =
    Refuses policy before left0 left held0 held spent len why
ChecksNext policy before left0 left held0 held spent rose checked (next.End end) = EndsNext policy before left0 left held0 held spent rose end

-- a checker that accepted nothing stays
abbrev pub Stays : Checked → Checked → Next → Type 0
Stays old new next.Accepted = Unit {0}
Stays old new _ = new ≡ old

-- what holds where one more line stands that is no line of the log
abbrev pub HasMore : CheckEnd → Type 0 → Type 0
HasMore (Refused why) P = P
HasMore Cut P = P
HasMore _ P = Unit {0}

-- a line that was judged may be; one that is refused is held with its line feed, and not too long
abbrev pub MayStand : List ℕ → Bool → Next → Type 0
MayStand held spent next.Accepted = spent ≡ false
MayStand held spent (next.Refused len why) = (len ≤ MOST_LINE_BYTES) × (len + 1 ≤ length held) × (spent ≡ false)
MayStand held spent (next.End end) = HasMore end (spent ≡ false)

abbrev pub KeepsCountNext : ℕ → ℕ → Next → Type 0
KeepsCountNext before after next.Accepted = after ≡ before
KeepsCountNext before after (next.Refused len why) = after ≡ before
KeepsCountNext before after (next.End end) = KeepsCount before after end

-- why a check stops that looks no further than to the first line that doesn't conform
abbrev pub stop_of : Next → Option CheckEnd
stop_of next.Accepted = None
stop_of (next.Refused len why) = Some (Refused why)
stop_of (next.End end) = Some end

-- so far: these lines were read from the bytes taken and accepted, and these bytes are held
pub record SoFar (policy : Policy) (left0 left : Option (List ℕ)) (held : List ℕ) (count : ℕ) (checked : Checked) : Type 0 where
  pub conformed : Conformed policy left0 left count held
  pub accepted : HasAccepted policy conformed.lines checked
