-- Two runs over the same settings, and what their bays served.
use Rattle.std.specs.Prelude.{ℕ, List, [], Option, Some, None, IfSome, slice_get}
use Rattle.alike_exchanges.specs.Alike.{AlikeExchanges}
use Rattle.alike_requests.specs.Alike.{AlikeSeen}
use Rattle.alike_requests.specs.Seen.{Seen, door_seen}
use Rattle.any_lane.specs.declared.lane.AnyLane.{AnyLane}
use Rattle.audit_core.specs.declared.settings.Settings.{Settings}
use Rattle.front_plants.specs.Fresh.{Openings, SinkOpens, log_opens, hook_opens}
use Rattle.front_plants.specs.Plants.{PlantTells}
use Rattle.serve_bays.specs.declared.options.RunOptions.{RunOptions}
use Rattle.role_threads.specs.Lists.{AllPairs}
use Rattle.serve_roles.specs.Doors.{BayHandles, tells_of}
use Rattle.serve_roles.specs.declared.bay_end.BayEnd.{BayEnd}
use Rattle.serve_runs.specs.Served.{BayServed, RunServed, run_exchanges}
use Rattle.serve_runs.specs.declared.ended.Ended.{Ended}

-- two runs, each over its own plant and its own tables, of one kind of plant
pub record TwoRuns {R L N W H K Y D C : Type 0} (h : BayHandles R L N W H K Y D C) (T : Type 0) (set : Settings) (options : RunOptions) (opens : Openings)
    (one other : Ended R L W H K Y D) : Type 0 where
  pub before : PlantTells C
  pub after : PlantTells C
  pub tables : List R
  pub ran : RunServed h T set options opens before after tables one
  pub begun : PlantTells C
  pub done : PlantTells C
  pub others : List R
  pub also : RunServed h T set options opens begun done others other

module _ {R L N W H K Y D C : Type 0} (h : BayHandles R L N W H K Y D C) (T : Type 0) (set : Settings) (options : RunOptions) (opens : Openings)
    (one other : Ended R L W H K Y D) where
  -- each bay of the first run had exchanges that look like those of the same bay of the second, in order
  abbrev pub AlikeBays : TwoRuns h T set options opens one other → Type 0
  AlikeBays runs = (bay : ℕ) → AllPairs AlikeExchanges (run_exchanges runs.ran bay) (run_exchanges runs.also bay)

-- ---- by what was asked for

module _ {R L N W H T K Y D C : Type 0} (h : BayHandles R L N W H K Y D C) (set : Settings) (log_new hook_new : SinkOpens) (boot : ℕ)
    (due : ℕ → Option (List C)) (tables : List R) (logs : List (AnyLane W T)) (hooks : List (AnyLane H T)) where
  -- the requests of a bay's connections; none where there is no such bay
  abbrev pub seen_if : (bay : ℕ) (end : Option (BayEnd R L K Y D)) → IfSome end (BayServed h set log_new hook_new boot due tables logs hooks bay)
      → List Seen
  seen_if bay None b = []
  seen_if bay (Some end) b = door_seen (tells_of h) set b.m b.runs.all b.n b.runs.ran

module _ {R L N W H K Y D C : Type 0} {h : BayHandles R L N W H K Y D C} {T : Type 0} {set : Settings} {options : RunOptions} {opens : Openings}
    {before after : PlantTells C} {tables : List R} {ended : Ended R L W H K Y D} where
  abbrev pub run_seen : RunServed h T set options opens before after tables ended → ℕ → List Seen
  run_seen served bay =
      seen_if h set (log_opens opens) (hook_opens opens options.hook_url) served.boot before.due tables served.logs served.hooks bay
      (slice_get ended.bays.items bay) (served.each bay)

module _ {R L N W H K Y D C : Type 0} (h : BayHandles R L N W H K Y D C) (T : Type 0) (set : Settings) (options : RunOptions) (opens : Openings)
    (one other : Ended R L W H K Y D) where
  -- each bay of the first run served requests that look like those of the same bay of the second, in order
  abbrev pub AlikeRuns : TwoRuns h T set options opens one other → Type 0
  AlikeRuns runs = (bay : ℕ) → AllPairs (AlikeSeen set) (run_seen runs.ran bay) (run_seen runs.also bay)
