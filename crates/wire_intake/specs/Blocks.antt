-- What a call that reads to the end of a head's block gives.
use Rattle.std.specs.Prelude.{◌≡◌, ℕ, List, Option}
use Rattle.std.specs.Io.KnownBytes.{IsAtEnd}
use Rattle.http_head.specs.Answer.{AwaitsBlock, IsBlock, IsTooLarge}
use Rattle.wire_intake.specs.declared.intake.ReadStop.TheVariants as read_stop
use Rattle.wire_intake.specs.declared.block.BlockStop.{BlockStop}
use Rattle.wire_intake.specs.declared.block.BlockStop.TheVariants as block_stop
use Rattle.wire_intake.specs.Seen as seen
use Rattle.wire_intake.specs.Seen.{Seen}

-- the block of a head stands first in what is held
pub record HoldsBlock (left0 left : Option (List ℕ)) (held0 held : List ℕ) (len : ℕ) : Type 0 where
  pub seen : Seen left0 left held0 held
  pub block : IsBlock held len

-- why no block came
abbrev pub NoBlock : Option (List ℕ) → Option (List ℕ) → List ℕ → List ℕ → Type 0 → BlockStop → Type 0
NoBlock left0 left held0 held rose block_stop.TooLarge = Seen left0 left held0 held × IsTooLarge held
NoBlock left0 left held0 held rose (block_stop.Input read_stop.AtEnd) =
    Seen left0 left held0 held × AwaitsBlock held × IsAtEnd left
NoBlock left0 left held0 held rose (block_stop.Input read_stop.ReadFault) =
    Seen left0 left held0 held × AwaitsBlock held × rose
NoBlock left0 left held0 held rose (block_stop.Input read_stop.NoMemory) = Unit {0}

-- the count of faults stays, but where a read failed
abbrev pub KeepsCount : ℕ → ℕ → BlockStop → Type 0
KeepsCount before after (block_stop.Input stop) = seen.KeepsCount before after stop
KeepsCount before after block_stop.TooLarge = after ≡ before
