-- The exchanges of a bay of a run.
use Rattle.std.proofs.Common.{◌≡◌, ◌≤◌, ℕ, List, Option, Some, None, IfSome, sym, subst}
use Rattle.alike_requests.specs.Seen.{AreNoted, door_seen, noted_by}
use Rattle.any_lane.specs.declared.lane.AnyLane.{AnyLane}
use Rattle.audit_core.specs.declared.settings.Settings.{Settings}
use Rattle.bay_runs.specs.Runs.{ConnTells, Ran, ServedConn, exchanges_of}
use Rattle.front_plants.specs.Fresh.{SinkOpens}
use Rattle.request_bounds.specs.Bounds.{line_limit}
use Rattle.run_bounds.specs.Bounds.{AllFit, AllRead}
use Rattle.run_bounds.proofs.BoundLemmas.{EventsFit, all_fit}
use Rattle.run_bounds.proofs.KnownLemmas.{AllKnown, all_read, door_known}
use Rattle.serve_roles.specs.Doors.{BayHandles, tells_of}
use Rattle.serve_roles.specs.declared.bay_end.BayEnd.{BayEnd}
use Rattle.serve_runs.specs.Served.{BayServed, exchanges_if}
use Rattle.session_core.specs.Bays.{BayState}

-- the laws that are called
abbrev pub Notes : Type 0 → Type 0
Notes C = (tells : C → ConnTells) (set : Settings) (m : BayState) (all : List (ServedConn C)) (n : BayState) (r : Ran tells set m all n)
    → noted_by (door_seen tells set m all n r) ≡ exchanges_of all

abbrev pub Each : Type 0 → Type 0
Each C = (tells : C → ConnTells) (set : Settings) (m : BayState) (all : List (ServedConn C)) (n : BayState) (r : Ran tells set m all n)
    → AreNoted set (door_seen tells set m all n r)

module _ {R L N W H T K Y D C : Type 0} (h : BayHandles R L N W H K Y D C) (set : Settings) (log_new hook_new : SinkOpens) (boot : ℕ)
    (due : ℕ → Option (List C)) (tables : List R) (logs : List (AnyLane W T)) (hooks : List (AnyLane H T)) where
  pub end_read : (bay : ℕ) (end : Option (BayEnd R L K Y D)) (b : IfSome end (BayServed h set log_new hook_new boot due tables logs hooks bay))
      → AllRead (exchanges_if h set log_new hook_new boot due tables logs hooks bay end b)
  end_read bay None b = tt
  end_read bay (Some end) b = all_read (exchanges_of b.runs.all) (door_known (tells_of h) set b.m b.runs.all b.n b.runs.ran)

  pub end_fits : EventsFit → Notes C → Each C → line_limit set.tokens ≤ set.max_event → (bay : ℕ) (end : Option (BayEnd R L K Y D))
      (b : IfSome end (BayServed h set log_new hook_new boot due tables logs hooks bay))
      → AllFit set (exchanges_if h set log_new hook_new boot due tables logs hooks bay end b)
  end_fits fits notes each limit bay None b = tt
  end_fits fits notes each limit bay (Some end) b =
      let are = notes (tells_of h) set b.m b.runs.all b.n b.runs.ran in
      subst (AllFit set) are
      (all_fit fits set limit (door_seen (tells_of h) set b.m b.runs.all b.n b.runs.ran) (each (tells_of h) set b.m b.runs.all b.n b.runs.ran)
      (subst AllKnown (sym are) (door_known (tells_of h) set b.m b.runs.all b.n b.runs.ran)))
