-- What is left of bays and drainers that ran.
use Rattle.std.specs.Prelude.{◌≡◌, List, map, Option}
use Rattle.queue_drain.specs.Drains.{RanDrain}
use Rattle.queue_drain.specs.declared.drain.QueueDrain.{QueueDrain}
use Rattle.role_threads.specs.Lists.{AllPairs, IfBoth}
use Rattle.role_threads.specs.declared.role.Roles.{Roles}
use Rattle.serve_roles.specs.Doors.{BayHandles}
use Rattle.serve_roles.specs.Ends.{bay_end, log_lane, hook_lane}
use Rattle.serve_roles.specs.Roles.{RanBay}
use Rattle.serve_roles.specs.declared.bay_role.BayRole.{BayRole}
use Rattle.serve_runs.specs.declared.ending.LogEnded.{LogEnded}
use Rattle.sink_lanes.specs.Ends.{CanEnd, Ends, own_parts, queued_parts}

module _ {R L N W H T K Y D C : Type 0} (h : BayHandles R L N W H K Y D C) where
  -- whatever bays and the log's drainer did, the lanes of the log can be taken back
  abbrev pub CanEndLog : List (BayRole R L W H T K Y D) → Option (QueueDrain W T K) → Type 0
  CanEndLog bays log =
      (ran : List (BayRole R L W H T K Y D)) (drain : Option (QueueDrain W T K)) → AllPairs (RanBay h) bays ran → IfBoth (RanDrain h.log h.clock) log drain
      → CanEnd h.log h.clock (queued_parts (map log_lane ran)) drain

  -- Each bay and each drainer ran. The ends are those of these bays, the log is put, and the lanes of the webhook are still there
  pub record RanToEnd (roles : Roles (BayRole R L W H T K Y D) (QueueDrain W T K) (QueueDrain H T K)) (left : LogEnded R L W H T K Y D)
      (hook : Option (QueueDrain H T K)) : Type 0 where
    pub bays : List (BayRole R L W H T K Y D)
    pub drain : Option (QueueDrain W T K)
    pub bays_ran : AllPairs (RanBay h) roles.bays.items bays
    pub log_ran : IfBoth (RanDrain h.log h.clock) roles.log drain
    pub hook_ran : IfBoth (RanDrain h.hook h.clock) roles.hook hook
    pub ends_are : left.bays.items ≡ map bay_end bays
    pub hooks_are : left.hooks.items ≡ map hook_lane bays
    pub own_is : left.log.own.items ≡ own_parts (map log_lane bays)
    pub queue_is : Ends h.log h.clock (queued_parts (map log_lane bays)) drain left.log.drain
