-- What becomes of the lines of an input that are shipped.
use Rattle.std.specs.Prelude.{◌≡◌, ◌≢◌, ◌≤◌, ◌<◌, ◌⊎◌, ◌++◌, ℕ, Bool, true, false, List, [], ◌∷◌, length, Option, Some, None, All}
use Rattle.std.specs.Io.KnownBytes.{Consumes, IsAtEnd}
use Rattle.batch_backend.specs.declared.limits.Limits.{Limits}
use Rattle.log_ship.specs.Cuts.{AreBatches, AreGathered, Gathered, could_take, lines_from}
use Rattle.front_base.specs.Line.{Line}
use Rattle.front_base.specs.declared.audit_id.TheConstants.{MOST_REQUESTS}
use Rattle.front_base.specs.declared.line.TheConstants.{MOST_LINE_BYTES}
use Rattle.log_lines.specs.Lines.{HasNoFeed, ReadsLines, StartsTooLong, StartsWithLine}
use Rattle.log_lines.specs.Seen.{Seen}
use Rattle.log_lines.specs.declared.buffer.ReadStop.TheVariants as read_stop
use Rattle.log_lines.specs.declared.next.LineStop.{LineStop}
use Rattle.log_lines.specs.declared.next.LineStop.TheVariants as line_stop
use Rattle.retry_throttle.specs.Sendings.{Rules}
use Rattle.retry_throttle.specs.declared.sent.Sent.{Sent}
use Rattle.log_ship.specs.Texts.{IsShippable}
use Rattle.log_ship.specs.Chains.{Side, SendsOne, Chain, Posted, counted, tallied}
use Rattle.log_ship.specs.declared.end.ShipEnd.{ShipEnd}
use Rattle.log_ship.specs.declared.end.ShipEnd.TheVariants.{Done, NotJson, TooLong, Cut, ReadFault, NumbersSpent, NoMemory}
use Rattle.log_ship.specs.declared.tally.Tally.{Tally}

-- the limits of a batch, and how often it is posted
pub record Setup : Type 0 where
  pub limits : Limits
  pub rules : Rules

-- no line is too long
abbrev pub IsShort : List ℕ → Type 0
IsShort line = length line ≤ MOST_LINE_BYTES

-- the bytes taken begin with lines that are read past and then these, each of which can be shipped, and this is what comes after them. None is
-- too long
pub record Reads (left0 left : Option (List ℕ)) (passed texts : List (List ℕ)) (rest : List ℕ) : Type 0 where
  pub taken : List ℕ
  pub consumed : Consumes left0 left taken
  pub reads : ReadsLines taken (passed ++ texts) rest
  pub short : All IsShort (passed ++ texts)
  pub shippable : All IsShippable texts
  pub few : length texts ≤ MOST_REQUESTS

-- no batch is counted yet
abbrev pub no_batch : Tally
no_batch = record { posted = 0; lost = 0; posts = 0 }

-- so many lines were read past, and then so many read; all of their batches were sent, in order, and counted, and this is what comes after the
-- lines
pub record Ships (setup : Setup) (p : Side) (left0 left : Option (List ℕ)) (first lines : ℕ) (rest : List ℕ) (tally : Tally) (q : Side) : Type 0 where
  pub passed : List (List ℕ)
  pub texts : List (List ℕ)
  pub read : Reads left0 left passed texts rest
  pub passed_is : length passed ≡ first
  pub count_is : length texts ≡ lines
  pub batches : List (List Line)
  pub ends : List Sent
  pub cut : AreBatches setup.limits (lines_from first texts) batches
  pub chain : Chain setup.rules p batches ends q
  pub posted : Posted setup.rules p batches ends q
  pub tally_is : tally ≡ tallied no_batch batches ends

-- the same, but only the first of their batches were sent; the lines that wait were not
pub record ShipsPart (setup : Setup) (p : Side) (left0 left : Option (List ℕ)) (first lines : ℕ) (rest : List ℕ) (tally : Tally) (q : Side) : Type 0 where
  pub passed : List (List ℕ)
  pub texts : List (List ℕ)
  pub read : Reads left0 left passed texts rest
  pub passed_is : length passed ≡ first
  pub count_is : length texts ≡ lines
  pub batches : List (List Line)
  pub pending : List Line
  pub ends : List Sent
  pub cut : AreGathered setup.limits (lines_from first texts) batches pending
  pub chain : Chain setup.rules p batches ends q
  pub posted : Posted setup.rules p batches ends q
  pub tally_is : tally ≡ tallied no_batch batches ends

-- the next line is whole, and can't be shipped
abbrev pub IsRefused : List ℕ → Type 0
IsRefused rest = (line : List ℕ) × (after : List ℕ) × StartsWithLine rest line after × IsShort line × (¬ (IsShippable line))

-- the input ends within a line
abbrev pub IsCut : Option (List ℕ) → List ℕ → Type 0
IsCut left rest = (rest ≢ []) × HasNoFeed rest × IsAtEnd left

-- why no more lines were shipped
abbrev pub EndsBy : Option (List ℕ) → Type 0 → ℕ → List ℕ → ShipEnd → Type 0
EndsBy left rose lines rest Done = (rest ≡ []) × IsAtEnd left
EndsBy left rose lines rest NotJson = (lines < MOST_REQUESTS) × IsRefused rest
EndsBy left rose lines rest TooLong = (lines < MOST_REQUESTS) × StartsTooLong rest
EndsBy left rose lines rest Cut = (lines < MOST_REQUESTS) × IsCut left rest
EndsBy left rose lines rest ReadFault = HasNoFeed rest × rose
EndsBy left rose lines rest NumbersSpent = (lines ≡ MOST_REQUESTS) × (rest ≢ [])
EndsBy left rose lines rest NoMemory = ⊥

-- as many lines were read past as stand before the first one that is shipped; or it ended before that one
abbrev pub Begins : ℕ → ℕ → ℕ → Type 0
Begins before first lines = (first ≡ before) ⊎ ((first < before) × (lines ≡ 0))

-- the lines of an input were shipped after so many that were read past, up to its end or to what stopped them
pub record ShipsAll (setup : Setup) (before : ℕ) (p : Side) (left0 left : Option (List ℕ)) (rose : Type 0) (first lines : ℕ) (tally : Tally) (end : ShipEnd)
    (q : Side) : Type 0 where
  pub begins : Begins before first lines
  pub rest : List ℕ
  pub ships : Ships setup p left0 left first lines rest tally q
  pub ends_by : EndsBy left rose lines rest end

-- an earlier part of it was
pub record ShipsEarlier (setup : Setup) (before : ℕ) (p : Side) (left0 : Option (List ℕ)) (first lines : ℕ) (tally : Tally) (q : Side) : Type 0 where
  pub begins : Begins before first lines
  pub left : Option (List ℕ)
  pub rest : List ℕ
  pub ships : ShipsPart setup p left0 left first lines rest tally q

-- all of it, or what came before where memory ran out
abbrev pub ShipsInput : Setup → ℕ → Side → Option (List ℕ) → Option (List ℕ) → Type 0 → ℕ → ℕ → Tally → ShipEnd → Side → Type 0
ShipsInput setup before p left0 left rose first lines tally NoMemory q = ShipsEarlier setup before p left0 first lines tally q
ShipsInput setup before p left0 left rose first lines tally end q = ShipsAll setup before p left0 left rose first lines tally end q

-- the count of faults stays, but where a read failed
abbrev pub KeepsCount : ℕ → ℕ → ShipEnd → Type 0
KeepsCount before after ReadFault = Unit {0}
KeepsCount before after _ = after ≡ before

-- ---- for private clauses

abbrev pub end_of : LineStop → Bool → Bool → ShipEnd
end_of line_stop.TooLong true more = NumbersSpent
end_of line_stop.TooLong false more = TooLong
end_of (line_stop.Input read_stop.AtEnd) spent false = Done
end_of (line_stop.Input read_stop.AtEnd) true true = NumbersSpent
end_of (line_stop.Input read_stop.AtEnd) false true = Cut
end_of (line_stop.Input read_stop.ReadFault) spent more = ReadFault
end_of (line_stop.Input read_stop.NoMemory) spent more = NoMemory

-- a line of so many bytes stands first in what is held, and can be shipped
pub record HoldsText (left0 left : Option (List ℕ)) (held0 held : List ℕ) (spent : Bool) (size : ℕ) : Type 0 where
  pub seen : Seen left0 left held0 held
  pub line : List ℕ
  pub after : List ℕ
  pub starts : StartsWithLine held line after
  pub size_is : length line ≡ size
  pub short : size ≤ MOST_LINE_BYTES
  pub shippable : IsShippable line
  pub few : spent ≡ false

-- none does, and these bytes are held
abbrev pub EndsNext : Option (List ℕ) → Option (List ℕ) → List ℕ → List ℕ → Bool → Type 0 → ShipEnd → Type 0
EndsNext left0 left held0 held spent rose Done = Seen left0 left held0 held × (held ≡ []) × IsAtEnd left
EndsNext left0 left held0 held spent rose NotJson = Seen left0 left held0 held × (spent ≡ false) × IsRefused held
EndsNext left0 left held0 held spent rose TooLong = Seen left0 left held0 held × (spent ≡ false) × StartsTooLong held
EndsNext left0 left held0 held spent rose Cut = Seen left0 left held0 held × (spent ≡ false) × IsCut left held
EndsNext left0 left held0 held spent rose ReadFault = Seen left0 left held0 held × HasNoFeed held × rose
EndsNext left0 left held0 held spent rose NumbersSpent = Seen left0 left held0 held × (spent ≡ true) × (held ≢ [])
EndsNext left0 left held0 held spent rose NoMemory = Unit {0}

-- these lines were sent as one batch, and counted
abbrev pub SendsLines : Rules → Side → List Line → Tally → Side → Tally → Type 0
SendsLines rules p lines t q u = (end : Sent) × SendsOne rules p lines end q × (u ≡ counted lines end t)

-- those that wait were sent, if any do
abbrev pub SendsRest : Rules → Side → List Line → Tally → Side → Tally → Type 0
SendsRest rules p [] t q u = (q ≡ p) × (u ≡ t)
SendsRest rules p (x ∷ lines) t q u = SendsLines rules p (x ∷ lines) t q u

-- the same at the end, unless memory ran out
abbrev pub SendsAtEnd : ShipEnd → Rules → Side → List Line → Tally → Side → Tally → Type 0
SendsAtEnd NoMemory rules p lines t q u = (q ≡ p) × (u ≡ t)
SendsAtEnd end rules p lines t q u = SendsRest rules p lines t q u

-- a line joined those that wait, where they could take it; else they were sent, and it waits alone
abbrev pub Adds : Rules → Side → Gathered → Line → Tally → Side → Gathered → Tally → Type 0
Adds rules p old x t q new u =
    (new.limits ≡ old.limits)
    × (((could_take old.limits old.lines (length x.bytes) ≡ true) × (new.lines ≡ old.lines ++ x ∷ []) × (q ≡ p) × (u ≡ t))
    ⊎ ((could_take old.limits old.lines (length x.bytes) ≡ false) × (new.lines ≡ x ∷ []) × SendsLines rules p old.lines t q u))

-- nothing changed
pub record Stays (p : Side) (old : Gathered) (t : Tally) (q : Side) (new : Gathered) (u : Tally) : Type 0 where
  pub side : q ≡ p
  pub batch : new ≡ old
  pub tally : u ≡ t

-- a line stood next, and was added; these bytes are held after it
pub record Takes (rules : Rules) (left0 left : Option (List ℕ)) (held0 held : List ℕ) (spent : Bool) (number : ℕ)
    (p : Side) (old : Gathered) (t : Tally) (q : Side) (new : Gathered) (u : Tally) : Type 0 where
  pub bytes : List ℕ
  pub seen : Seen left0 left held0 bytes
  pub line : List ℕ
  pub starts : StartsWithLine bytes line held
  pub short : IsShort line
  pub shippable : IsShippable line
  pub few : spent ≡ false
  pub adds : Adds rules p old (record { bay = 0; number = number; bytes = line }) t q new u

abbrev pub ShipsNext : Rules → Option (List ℕ) → Option (List ℕ) → List ℕ → List ℕ → Bool → ℕ → Type 0
    → Side → Gathered → Tally → Side → Gathered → Tally → Option ShipEnd → Type 0
ShipsNext rules left0 left held0 held spent number rose p old t q new u None = Takes rules left0 left held0 held spent number p old t q new u
ShipsNext rules left0 left held0 held spent number rose p old t q new u (Some end) =
    EndsNext left0 left held0 held spent rose end × Stays p old t q new u

-- lines that were read past, and these bytes are held after them
pub record ReadsPast (left0 left : Option (List ℕ)) (first : ℕ) (held : List ℕ) : Type 0 where
  pub passed : List (List ℕ)
  pub taken : List ℕ
  pub consumed : Consumes left0 left taken
  pub reads : ReadsLines taken passed held
  pub short : All IsShort passed
  pub passed_is : length passed ≡ first

-- one more line was read past
pub record PassesNext (left0 left : Option (List ℕ)) (held0 held : List ℕ) : Type 0 where
  pub bytes : List ℕ
  pub seen : Seen left0 left held0 bytes
  pub line : List ℕ
  pub starts : StartsWithLine bytes line held
  pub short : IsShort line

-- fewer than there should be, and why no further one came
pub record StopsBefore (before : ℕ) (left0 left : Option (List ℕ)) (held : List ℕ) (rose : Type 0) (first : ℕ) (end : ShipEnd) : Type 0 where
  pub earlier : Option (List ℕ)
  pub bytes : List ℕ
  pub past : ReadsPast left0 earlier first bytes
  pub few : first < before
  pub ends : EndsNext earlier left bytes held false rose end

-- so far: these lines were read, and these bytes are held
abbrev pub SoFar : Setup → Side → Option (List ℕ) → Option (List ℕ) → ℕ → ℕ → List ℕ → Gathered → Tally → Side → Type 0
SoFar setup p left0 left first lines held gathered tally q =
    (s : ShipsPart setup p left0 left first lines held tally q) × (gathered ≡ record { limits = setup.limits; lines = s.pending })
