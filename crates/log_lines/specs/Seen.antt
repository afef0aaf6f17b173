-- What a call over a source sees of its input.
use Rattle.std.specs.Prelude.{◌≡◌, ℕ, ◌<◌, List, ◌++◌, length, Option}
use Rattle.std.specs.Io.KnownBytes.{Consumes, IsAtEnd}
use Rattle.log_lines.specs.declared.buffer.ReadStop.{ReadStop}
use Rattle.log_lines.specs.declared.buffer.ReadStop.TheVariants as read_stop

-- the bytes that were held, and those that were taken from the input in a call
pub record Seen (left0 left : Option (List ℕ)) (held bytes : List ℕ) : Type 0 where
  pub taken : List ℕ
  pub consumed : Consumes left0 left taken
  pub all : bytes ≡ held ++ taken

-- the bytes held grew by a piece that was taken
pub record Refilled (left0 left : Option (List ℕ)) (held0 held : List ℕ) : Type 0 where
  pub seen : Seen left0 left held0 held
  pub some : length held0 < length held

-- nothing was taken
pub record StillHeld (left0 left : Option (List ℕ)) (held0 held : List ℕ) : Type 0 where
  pub seen : Seen left0 left held0 held
  pub same : held ≡ held0

-- why nothing was read
abbrev pub NotRead : Option (List ℕ) → Option (List ℕ) → List ℕ → List ℕ → Type 0 → ReadStop → Type 0
NotRead left0 left held0 held rose read_stop.AtEnd = StillHeld left0 left held0 held × IsAtEnd left
NotRead left0 left held0 held rose read_stop.ReadFault = StillHeld left0 left held0 held × rose
NotRead left0 left held0 held rose read_stop.NoMemory = Unit {0}

-- the count of faults stays, but where a read failed
abbrev pub KeepsCount : ℕ → ℕ → ReadStop → Type 0
KeepsCount before after read_stop.ReadFault = Unit {0}
KeepsCount before after _ = after ≡ before
