-- What a call over a source gives of the requests of its input.
use Rattle.std.specs.Prelude.{◌≡◌, ℕ, List, Option, if◌then◌else◌}
use Rattle.std.specs.Io.KnownBytes.{IsAtEnd}
use Rattle.http_head.specs.declared.request.Head.{Head}
use Rattle.wire_intake.specs.Seen.{Seen}
use Rattle.wire_intake.specs.declared.intake.ReadStop.TheVariants as read_stop
use Rattle.wire_intake.specs.declared.block.BlockStop.{BlockStop}
use Rattle.wire_intake.specs.declared.block.BlockStop.TheVariants as block_stop
use Rattle.wire_intake.specs.declared.body.BodyStop.{BodyStop}
use Rattle.wire_intake.specs.declared.body.BodyStop.TheVariants as body_stop
use Rattle.http_edge.specs.declared.request.End.{End}
use Rattle.http_edge.specs.declared.request.End.TheVariants.{Ended, HeadTooLarge, CutShort}
use Rattle.http_edge.specs.declared.request.Request.{Request}
use Rattle.http_edge.specs.declared.request.Stop.{Stop}
use Rattle.http_edge.specs.declared.request.Stop.TheVariants as stop
use Rattle.http_edge.specs.Requests.{StartsWithHead, StartsWith, IsStop, IsUnfinished, is_blank, end_of, needs_end}

-- a head stands first in what was seen, and this is held after it
pub record GotHead (left0 left : Option (List ℕ)) (held0 held : List ℕ) (head : Head) : Type 0 where
  pub bytes : List ℕ
  pub seen : Seen left0 left held0 bytes
  pub starts : StartsWithHead bytes head held

-- a request stands first in what was seen, and this is held after it
pub record GotRequest (left0 left : Option (List ℕ)) (held0 held : List ℕ) (request : Request) : Type 0 where
  pub bytes : List ℕ
  pub seen : Seen left0 left held0 bytes
  pub starts : StartsWith bytes request held

-- no request comes after what was seen
pub record Stopped (left0 left : Option (List ℕ)) (held0 : List ℕ) (end : End) : Type 0 where
  pub bytes : List ℕ
  pub seen : Seen left0 left held0 bytes
  pub stop : IsStop bytes end
  pub at_end : needs_end end (IsAtEnd left)

-- what was seen is no whole request, and none that is refused
pub record Awaits (left0 left : Option (List ℕ)) (held0 : List ℕ) : Type 0 where
  pub bytes : List ℕ
  pub seen : Seen left0 left held0 bytes
  pub awaits : IsUnfinished bytes

-- why a call gave no request
abbrev pub NoRequest : Option (List ℕ) → Option (List ℕ) → List ℕ → Type 0 → Stop → Type 0
NoRequest left0 left held0 rose (stop.Refused end) = Stopped left0 left held0 end
NoRequest left0 left held0 rose stop.ReadFault = Awaits left0 left held0 × rose
NoRequest left0 left held0 rose stop.NoMemory = Unit {0}

-- the count of faults stays, but where a read failed
abbrev pub KeepsCount : ℕ → ℕ → Stop → Type 0
KeepsCount before after stop.ReadFault = Unit {0}
KeepsCount before after _ = after ≡ before

-- why there is no request where there is no block, by the bytes that are held
abbrev pub stop_of_block : List ℕ → BlockStop → Stop
stop_of_block held block_stop.TooLarge = stop.Refused HeadTooLarge
stop_of_block held (block_stop.Input read_stop.AtEnd) =
    if is_blank held then stop.Refused Ended else stop.Refused CutShort
stop_of_block held (block_stop.Input read_stop.ReadFault) = stop.ReadFault
stop_of_block held (block_stop.Input read_stop.NoMemory) = stop.NoMemory

abbrev pub stop_of_body : BodyStop → Stop
stop_of_body (body_stop.Fault fault) = stop.Refused (end_of fault)
stop_of_body (body_stop.Input read_stop.AtEnd) = stop.Refused CutShort
stop_of_body (body_stop.Input read_stop.ReadFault) = stop.ReadFault
stop_of_body (body_stop.Input read_stop.NoMemory) = stop.NoMemory
