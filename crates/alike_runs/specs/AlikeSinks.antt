-- Sinks whose tries were cut alike.
use Rattle.std.specs.Prelude.{◌≡◌, ℕ, List, Some}
use Rattle.alike_exchanges.specs.Cuts.{bays_of, breaks, cuts}
use Rattle.role_threads.specs.Lists.{AllPairs, IfBoth}
use Rattle.sink_lanes.specs.declared.ending.SinkEnd.{SinkEnd}
use Rattle.truncate_backend.specs.Tries.{SinkTells, Try, lines_of}
use Rattle.truncate_backend.specs.declared.sink.BatchSink as sinks

-- both sinks tell their tries, which were cut alike: as many lines in each, and as many bytes before each failure of a port
pub record AlikeTries (sink other : SinkTells) : Type 0 where
  pub these : List Try
  pub those : List Try
  pub told : sink.tries ≡ Some these
  pub other_told : other.tries ≡ Some those
  pub cut : cuts these ≡ cuts those

-- and their lines are of the same bays, in the same order
pub record AlikeTurns (sink other : SinkTells) : Type 0 where
  pub tried : AlikeTries sink other
  pub turns : bays_of (lines_of tried.these) ≡ bays_of (lines_of tried.those)

-- both sinks tell their tries, and their ports failed in the same tries, after as many bytes
pub record AlikeBreaks (sink other : SinkTells) : Type 0 where
  pub these : List Try
  pub those : List Try
  pub told : sink.tries ≡ Some these
  pub other_told : other.tries ≡ Some those
  pub broke : breaks these ≡ breaks those

-- where both ports still tell what they were given, it is the same
abbrev pub SameBytes : SinkTells → SinkTells → Type 0
SameBytes sink other = (these those : List ℕ) → sink.sent ≡ Some (Some these) → other.sent ≡ Some (Some those) → these ≡ those

module _ {S K : Type 0} where
  -- of the drainers of two runs
  abbrev pub AlikeDrains : sinks.Ghosts S → SinkEnd S K → SinkEnd S K → Type 0
  AlikeDrains s end other = IfBoth (λ a b. AlikeTurns (s.tells a.sink) (s.tells b.sink)) end.drain other.drain

  abbrev pub SameDrains : sinks.Ghosts S → SinkEnd S K → SinkEnd S K → Type 0
  SameDrains s end other = IfBoth (λ a b. SameBytes (s.tells a.sink) (s.tells b.sink)) end.drain other.drain

  -- of the sinks that bays have of their own, bay by bay
  abbrev pub AlikeOwn : sinks.Ghosts S → SinkEnd S K → SinkEnd S K → Type 0
  AlikeOwn s end other = AllPairs (λ a b. AlikeBreaks (s.tells a) (s.tells b)) end.own.items other.own.items

  abbrev pub SameOwn : sinks.Ghosts S → SinkEnd S K → SinkEnd S K → Type 0
  SameOwn s end other = AllPairs (λ a b. SameBytes (s.tells a) (s.tells b)) end.own.items other.own.items
