-- The lines of a text. A line is what stands before a line feed, and has none in it.
use Rattle.std.specs.Prelude.{◌≡◌, ◌≢◌, ◌≤◌, ◌<◌, ◌+◌, nat_le, ℕ, List, [], ◌∷◌, ◌++◌, length, take, get_or, Option, Some, None, Result, Ok, Err, if◌then◌else◌}
use Rattle.std.specs.List.{All}
use Rattle.std.specs.Io.KnownBytes.{IsAtEnd}
use Rattle.front_base.specs.declared.line.TheConstants.{MOST_LINE_BYTES}
use Rattle.log_lines.specs.Seen as seen
use Rattle.log_lines.specs.Seen.{Seen}
use Rattle.log_lines.specs.declared.buffer.ReadStop.TheVariants as read_stop
use Rattle.log_lines.specs.declared.next.LineStop.{LineStop}
use Rattle.log_lines.specs.declared.next.LineStop.TheVariants as line_stop

-- bytes without a line feed
abbrev pub HasNoFeed : List ℕ → Type 0
HasNoFeed bytes = All (λ b. b ≢ 10) bytes

-- the bytes begin with this line and its line feed, and these come after it
pub record StartsWithLine (bytes line after : List ℕ) : Type 0 where
  pub split : bytes ≡ line ++ 10 ∷ after
  pub plain : HasNoFeed line

-- the bytes are these lines, each with its line feed, and then the rest
abbrev pub ReadsLines : List ℕ → List (List ℕ) → List ℕ → Type 0
ReadsLines bytes [] rest = bytes ≡ rest
ReadsLines bytes (line ∷ lines) rest = (after : List ℕ) × StartsWithLine bytes line after × ReadsLines after lines rest

-- the bytes begin with more bytes than a line may have, and with no line feed among them
pub record StartsTooLong (bytes : List ℕ) : Type 0 where
  pub many : MOST_LINE_BYTES < length bytes
  pub plain : HasNoFeed (take (MOST_LINE_BYTES + 1) bytes)

-- ---- what a call that reads to the end of a line gives

-- no byte from one place up to another is a line feed
abbrev pub NoFeedIn : List ℕ → ℕ → ℕ → Type 0
NoFeedIn bytes i j = (k : ℕ) → i ≤ k → k < j → get_or bytes k 0 ≢ 10

-- the first line feed from a place on, if there is one
abbrev pub IsFeedFrom : List ℕ → ℕ → Option ℕ → Type 0
IsFeedFrom bytes from None = NoFeedIn bytes from (length bytes)
IsFeedFrom bytes from (Some n) = (from ≤ n) × (n < length bytes) × (get_or bytes n 0 ≡ 10) × NoFeedIn bytes from n

abbrev pub ended_at : ℕ → Result ℕ LineStop
ended_at n = if nat_le n MOST_LINE_BYTES then Ok n else Err line_stop.TooLong

-- a line of so many bytes, which is not too long, stands first in what is held
pub record HoldsLine (left0 left : Option (List ℕ)) (held0 held : List ℕ) (len : ℕ) : Type 0 where
  pub seen : Seen left0 left held0 held
  pub line : List ℕ
  pub after : List ℕ
  pub starts : StartsWithLine held line after
  pub length_is : length line ≡ len
  pub short : len ≤ MOST_LINE_BYTES

-- why no line came: what is held begins with one that is too long, or has no line feed and nothing more could be read
abbrev pub NoLine : Option (List ℕ) → Option (List ℕ) → List ℕ → List ℕ → Type 0 → LineStop → Type 0
NoLine left0 left held0 held rose line_stop.TooLong = Seen left0 left held0 held × StartsTooLong held
NoLine left0 left held0 held rose (line_stop.Input read_stop.AtEnd) = Seen left0 left held0 held × HasNoFeed held × IsAtEnd left
NoLine left0 left held0 held rose (line_stop.Input read_stop.ReadFault) = Seen left0 left held0 held × HasNoFeed held × rose
NoLine left0 left held0 held rose (line_stop.Input read_stop.NoMemory) = Unit {0}

-- the count of faults stays, but where a read failed
abbrev pub KeepsCount : ℕ → ℕ → LineStop → Type 0
KeepsCount before after (line_stop.Input stop) = seen.KeepsCount before after stop
KeepsCount before after line_stop.TooLong = after ≡ before
