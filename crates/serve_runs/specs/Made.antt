-- The roles of a run before they ran.
use Rattle.std.specs.Prelude.{◌≡◌, ℕ, List, ◌∷◌, ◌++◌, length, map, slice_get, Option, IfSome}
use Rattle.audit_core.specs.declared.settings.Settings.{Settings}
use Rattle.front_plants.specs.Fresh.{Openings, log_opens, hook_opens}
use Rattle.front_plants.specs.Plants.{PlantTells}
use Rattle.front_plants.specs.declared.call.PlantCall.{PlantCall}
use Rattle.front_plants.specs.declared.call.PlantCall.TheVariants.{Boot, Log, Hook}
use Rattle.serve_bays.specs.LaneCalls.{CallsPart, sink_calls}
use Rattle.serve_bays.specs.Lanes.{LanesFor}
use Rattle.serve_bays.specs.declared.options.RunOptions.{RunOptions}
use Rattle.queue_drain.specs.declared.drain.QueueDrain.{QueueDrain}
use Rattle.role_threads.specs.declared.role.Roles.{Roles}
use Rattle.serve_bays.specs.Bays.{IsNewBay, routes_of}
use Rattle.serve_bays.specs.BayCalls.{bays_calls}
use Rattle.serve_roles.specs.Doors.{BayHandles}
use Rattle.serve_roles.specs.Ends.{log_lane, hook_lane}
use Rattle.serve_roles.specs.declared.bay_role.BayRole.{BayRole}
use Rattle.truncate_backend.specs.Told.{Joined}

-- All calls that a run makes of its plant: the word that audit IDs begin with; for the log and for the webhook what their modes ask
-- for, with these allotments as answers; and for each bay its dial, its door at the address of the words, its clock and its diary
pub record RunCalls (set : Settings) (options : RunOptions) (boot : ℕ) (log_allots hook_allots : List ℕ) (before after : Option (List PlantCall)) : Type 0 where
  pub allotted : (length log_allots ≡ options.bays) × (length hook_allots ≡ options.bays)
  pub made : Joined before
      (Boot boot ∷ (sink_calls (Log options.log_path) options.bays log_allots set.log
      ++ (sink_calls (Hook options.hook_url) options.bays hook_allots set.hook
      ++ bays_calls options.listen options.connections 0 options.bays))) after

-- some of these calls, from the first one on, were made, and no other
pub record RunCallsPart (set : Settings) (options : RunOptions) (before after : Option (List PlantCall)) : Type 0 where
  pub boot : ℕ
  pub log_allots : List ℕ
  pub hook_allots : List ℕ
  pub allotted : (length log_allots ≡ options.bays) × (length hook_allots ≡ options.bays)
  pub part : CallsPart
      (Boot boot ∷ (sink_calls (Log options.log_path) options.bays log_allots set.log
      ++ (sink_calls (Hook options.hook_url) options.bays hook_allots set.hook
      ++ bays_calls options.listen options.connections 0 options.bays))) before after

-- new bays with these routes and the lanes of both sinks, and the drainers of these
pub record AreMade {R L N W H T K Y D C : Type 0} (h : BayHandles R L N W H K Y D C) (set : Settings) (options : RunOptions)
    (opens : Openings) (before after : PlantTells C) (tables : List R) (roles : Roles (BayRole R L W H T K Y D) (QueueDrain W T K) (QueueDrain H T K)) : Type 0 where
  pub boot : ℕ
  pub log_allots : List ℕ
  pub hook_allots : List ℕ
  pub called : RunCalls set options boot log_allots hook_allots before.made after.made
  pub count : length roles.bays.items ≡ options.bays
  pub routes : map routes_of roles.bays.items ≡ tables
  pub each : (bay : ℕ) → IfSome (slice_get roles.bays.items bay) (λ role. IsNewBay h set boot (before.due bay) bay role)
  pub log : LanesFor h.log h.clock (log_opens opens) set.log options.bays options.buffer log_allots options.limits (map log_lane roles.bays.items) roles.log
  pub hook : LanesFor h.hook h.clock (hook_opens opens options.hook_url) set.hook options.bays options.buffer hook_allots options.limits (map hook_lane roles.bays.items) roles.hook
