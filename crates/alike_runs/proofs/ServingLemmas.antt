-- The exchanges of bays that served alike requests.
use Rattle.std.proofs.Common.{◌≡◌, ℕ, List, Option, Some, None, IfSome, refl}
use Rattle.alike_requests.specs.Seen.{AreNoted, door_seen, noted_by}
use Rattle.any_lane.specs.declared.lane.AnyLane.{AnyLane}
use Rattle.audit_core.specs.declared.settings.Settings.{Settings}
use Rattle.bay_runs.specs.Runs.{ConnTells, ServedConn, Ran, exchanges_of}
use Rattle.front_plants.specs.Fresh.{SinkOpens}
use Rattle.alike_runs.specs.TwoRuns.{seen_if}
use Rattle.serve_roles.specs.Doors.{BayHandles, tells_of}
use Rattle.serve_roles.specs.declared.bay_end.BayEnd.{BayEnd}
use Rattle.serve_runs.specs.Served.{BayServed, exchanges_if}
use Rattle.session_core.specs.Bays.{BayState}

-- the laws that are called
abbrev pub Notes : Type 0 → Type 0
Notes C = (tells : C → ConnTells) (set : Settings) (m : BayState) (all : List (ServedConn C)) (n : BayState) (r : Ran tells set m all n)
    → noted_by (door_seen tells set m all n r) ≡ exchanges_of all

abbrev pub Each : Type 0 → Type 0
Each C = (tells : C → ConnTells) (set : Settings) (m : BayState) (all : List (ServedConn C)) (n : BayState) (r : Ran tells set m all n)
    → AreNoted set (door_seen tells set m all n r)

module _ {R L N W H T K Y D C : Type 0} (h : BayHandles R L N W H K Y D C) (set : Settings) (log_new hook_new : SinkOpens) (boot : ℕ)
    (due : ℕ → Option (List C)) (tables : List R) (logs : List (AnyLane W T)) (hooks : List (AnyLane H T)) where
  -- a bay's exchanges are what was noted of its requests
  pub seen_are : Notes C → (bay : ℕ) (end : Option (BayEnd R L K Y D)) (b : IfSome end (BayServed h set log_new hook_new boot due tables logs hooks bay))
      → noted_by (seen_if h set log_new hook_new boot due tables logs hooks bay end b) ≡ exchanges_if h set log_new hook_new boot due tables logs hooks bay end b
  seen_are notes bay None b = refl
  seen_are notes bay (Some end) b = notes (tells_of h) set b.m b.runs.all b.n b.runs.ran

  pub seen_noted : Each C → (bay : ℕ) (end : Option (BayEnd R L K Y D)) (b : IfSome end (BayServed h set log_new hook_new boot due tables logs hooks bay))
      → AreNoted set (seen_if h set log_new hook_new boot due tables logs hooks bay end b)
  seen_noted each bay None b = tt
  seen_noted each bay (Some end) b = each (tells_of h) set b.m b.runs.all b.n b.runs.ran
