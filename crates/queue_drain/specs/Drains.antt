-- A drainer of a queue: what it took, and what became of it.
use Rattle.std.specs.Prelude.{◌≡◌, ◌<◌, ◌≤◌, ◌+◌, ◌-◌, ◌^◌, min, ℕ, List, [], ◌++◌, length, map, take, sum_by, get_or, Option, IfSome, All, ◌∷◌}
use Rattle.batch_backend.specs.Batches.{WithinLimits}
use Rattle.batch_backend.specs.Closes.{Times, AllEnd}
use Rattle.batch_backend.specs.declared.limits.Limits.{Limits}
use Rattle.front_base.specs.Line.{Line}
use Rattle.front_ports.specs.declared.clock.Clock as clocks
use Rattle.queue_drain.specs.Turns.{Turned, WaitsInTime, EndsInTime}
use Rattle.queue_drain.specs.declared.drain.QueueDrain.{QueueDrain}
use Rattle.queue_drain.specs.declared.drain_end.DrainEnd.{DrainEnd}
use Rattle.shared_queue.specs.Bays.{of_bay}
use Rattle.shared_queue.specs.Lanes.{lane_accepted, lane_fulls}
use Rattle.shared_queue.specs.Queues.{outlet_taken, outlet_home}
use Rattle.shared_queue.specs.declared.lane.QueueLane.{QueueLane}
use Rattle.shared_queue.specs.declared.outlet.QueueOutlet.{QueueOutlet}
use Rattle.truncate_backend.specs.Tries.{Try, SinkTells, KeepsSent, IsNoted, lines_of, done_of, faults_in, refusals_in}
use Rattle.truncate_backend.specs.declared.sink.BatchSink as sinks

-- its queue, the lines that it took, those of them that still wait and since when, the first and the last moment that it went by,
-- all moments that its clock gave and the last of them, what its sink tells, and how many lines it counted as written and as lost
pub record DrainState : Type 0 where
  pub limits : Limits
  pub home : List ℕ
  pub taken : List Line
  pub waits : List Line
  pub since : ℕ
  pub began : ℕ
  pub last : ℕ
  pub given : Option (List ℕ)
  pub clock : ℕ
  pub sink : SinkTells
  pub written : ℕ
  pub lost : ℕ

-- where its lines come from
abbrev pub drain_outlet : {S R K : Type 0} → QueueDrain S R K → QueueOutlet R
drain_outlet d = d.outlet

abbrev pub drain_state : {S R K : Type 0} → sinks.Ghosts S → clocks.Ghosts K → QueueDrain S R K → DrainState
drain_state s k d = record {
  limits = d.drainer.limits;
  home = outlet_home d.outlet;
  taken = outlet_taken d.outlet;
  waits = d.drainer.pending.lines;
  since = d.drainer.pending.since;
  began = d.began;
  last = d.last;
  given = k.given d.clock;
  clock = k.last d.clock;
  sink = s.tells d.sink;
  written = d.written;
  lost = d.lost;
}

-- Since the start these tries were made, which are those of the sink where it tells them. Their lines, joined, and those that
-- still wait are what was taken; and so many of their lines were written, and so many not. The sink counted a fault or a refusal for each try
-- that isn't Done. Each try is noted as it was. Each ended for its number, its bytes or its age, and was put in time, as far as the
-- moments go that the drainer went by
pub record Accounts (d : DrainState) : Type 0 where
  pub tries : List Try
  pub told : IfSome d.sink.tries (λ own. own ≡ tries)
  pub all : lines_of tries ++ d.waits ≡ d.taken
  pub within : All (λ (t : Try). WithinLimits d.limits t.lines) tries
  pub noted : All (IsNoted d.sink.text) tries
  pub unwritten : ℕ
  pub each : length (done_of tries) + unwritten ≡ length (lines_of tries)
  pub written_is : d.written ≡ min (length (done_of tries)) (2 ^ 64 - 1)
  pub lost_is : d.lost ≡ min unwritten (2 ^ 64 - 1)
  pub faults_are : d.sink.faults ≡ min (faults_in tries) (2 ^ 64 - 1)
  pub refusals_are : d.sink.refusals ≡ min (refusals_in tries) (2 ^ 64 - 1)
  pub clock_is : d.clock ≡ d.last
  pub turns : List ℕ
  pub times : List Times
  pub turned : Turned d.limits d.began d.last d.given turns times
  pub ends : AllEnd d.limits tries times d.waits
  pub waiting : WaitsInTime d.limits turns d.last d.waits d.since

-- the first moment that it went by is the first one that its clock answered, and the last one the last
pub record EndsTimed {S K : Type 0} (k : clocks.Ghosts K) (e : DrainEnd S K) : Type 0 where
  pub first : IfSome (k.given e.clock) (λ moments. take 1 moments ≡ e.began ∷ [])
  pub last : k.last e.clock ≡ e.ended

-- what no pump changes
pub record SameDrain (d e : DrainState) : Type 0 where
  pub limits : e.limits ≡ d.limits
  pub home : e.home ≡ d.home

-- a drainer that ran is that of the same queue, still accounts for all that it took, and its sink sent what its tries say
pub record RanDrain {S R K : Type 0} (s : sinks.Ghosts S) (k : clocks.Ghosts K) (d e : QueueDrain S R K) : Type 0 where
  pub same : SameDrain (drain_state s k d) (drain_state s k e)
  pub accounts : Accounts (drain_state s k d) → Accounts (drain_state s k e)
  pub sent : KeepsSent (drain_state s k d).sink (drain_state s k e).sink

-- Each bay's accepted lines are its lines among those that the tries have, in order and each once, and a number that is no
-- bay has none. Each try is noted as it was, and the sink counted a fault or a refusal for each that isn't Done, so that a line stayed unwritten
-- only where it counted one. Each try but the last one ended for its number, its bytes or its age, and was put in time
pub record EndsDrain {R : Type 0} (limits : Limits) (lanes : List (QueueLane R)) (sink : SinkTells) (written lost fulls began ended : ℕ)
    (given : Option (List ℕ)) : Type 0 where
  pub tries : List Try
  pub told : IfSome sink.tries (λ own. own ≡ tries)
  pub bays : (bay : ℕ) → get_or (map lane_accepted lanes) bay [] ≡ of_bay bay (lines_of tries)
  pub within : All (λ (t : Try). WithinLimits limits t.lines) tries
  pub noted : All (IsNoted sink.text) tries
  pub unwritten : ℕ
  pub each : length (done_of tries) + unwritten ≡ length (lines_of tries)
  pub written_is : written ≡ min (length (done_of tries)) (2 ^ 64 - 1)
  pub lost_is : lost ≡ min unwritten (2 ^ 64 - 1)
  pub faults_are : sink.faults ≡ min (faults_in tries) (2 ^ 64 - 1)
  pub refusals_are : sink.refusals ≡ min (refusals_in tries) (2 ^ 64 - 1)
  pub cause : 0 < unwritten → 0 < sink.faults + sink.refusals
  pub fulls_are : fulls ≡ min (sum_by lane_fulls lanes) (2 ^ 64 - 1)
  pub in_time : EndsInTime limits began ended given tries
