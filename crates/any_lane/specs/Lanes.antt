-- What the lane of a sink tells, and what an offer to it does, whatever the sink's mode.
use Rattle.std.specs.Prelude.{◌≡◌, ℕ, Bool, true, false, List, [], ◌∷◌, Option, Some, None}
use Rattle.any_lane.specs.declared.lane.AnyLane.{AnyLane}
use Rattle.any_lane.specs.declared.lane.AnyLane.TheVariants.{Off, Queue, Own}
use Rattle.front_base.specs.Line.{Line}
use Rattle.shared_queue.specs.Lanes.{SameLane, LaneOffered, lane_tells, lane_bay, lane_home}
use Rattle.truncate_backend.specs.Lanes.{LaneTells, Offered}
use Rattle.truncate_backend.specs.Owns.{own_tells}
use Rattle.truncate_backend.specs.Told.{RisesByOne}
use Rattle.truncate_backend.specs.declared.lane.Lane as lanes
use Rattle.truncate_backend.specs.declared.lane.Offer.{Offer}
use Rattle.truncate_backend.specs.declared.lane.Offer.TheVariants.{Failed}
use Rattle.truncate_backend.specs.declared.sink.BatchSink as sinks

module _ {S R : Type 0} where
  -- a sink that is off accepted nothing
  abbrev pub any_tells : sinks.Ghosts S → AnyLane S R → LaneTells
  any_tells s (Off failed) = record { accepted = Some []; tried = None; fulls = 0; faults = failed; sink = None }
  any_tells s (Queue lane) = lane_tells lane
  any_tells s (Own lane) = own_tells (s.tells lane.sink)

  -- only the lane of a queue takes the lines of one bay alone
  abbrev pub any_bay : AnyLane S R → Option ℕ
  any_bay (Off failed) = None
  any_bay (Queue lane) = Some (lane_bay lane)
  any_bay (Own lane) = None

  -- the queue that it belongs to. A sink of the bay's own has a home that no queue has
  abbrev pub any_home : AnyLane S R → List ℕ
  any_home (Off failed) = []
  any_home (Queue lane) = lane_home lane
  any_home (Own lane) = 0 ∷ []

  -- whether a drainer takes its lines from a queue
  abbrev pub any_queued : AnyLane S R → Bool
  any_queued (Off failed) = false
  any_queued (Queue lane) = true
  any_queued (Own lane) = false

  -- all of that
  abbrev pub any_lane : sinks.Ghosts S → lanes.Ghosts (AnyLane S R)
  any_lane s = record { tells = any_tells s; bay = any_bay; home = any_home; queued = any_queued }

  -- A sink that is off hands the line back, and counts one more. The others stay what they are, and do what each does with a line
  abbrev pub OfferedAny : sinks.Ghosts S → AnyLane S R → Line → Offer → AnyLane S R → Type 0
  OfferedAny s (Off failed) x answer (Off more) = (answer ≡ Failed x) × RisesByOne failed more
  OfferedAny s (Queue lane) x answer (Queue after) = SameLane lane after × LaneOffered lane x answer after
  OfferedAny s (Own lane) x answer (Own after) =
      Offered (own_tells (s.tells lane.sink)) x false answer (own_tells (s.tells after.sink))
  OfferedAny s (Off failed) x answer (Queue after) = ⊥
  OfferedAny s (Off failed) x answer (Own after) = ⊥
  OfferedAny s (Queue lane) x answer (Off more) = ⊥
  OfferedAny s (Queue lane) x answer (Own after) = ⊥
  OfferedAny s (Own lane) x answer (Off more) = ⊥
  OfferedAny s (Own lane) x answer (Queue after) = ⊥
