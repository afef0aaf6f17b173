-- By what each request of a run was decided, and which changes it made.
use Rattle.std.specs.Prelude.{◌≡◌, ◌<◌, ◌⊎◌, ℕ, Bool, true, List, [], ◌∷◌, length, All, slice_get, IfSome}
use mathlib.Core.List.{IsPrefix}
use Rattle.apiservice_rows.specs.Row.{Row}
use Rattle.apiservice_table.specs.Changes.{IsLater}
use Rattle.apiservice_table.specs.declared.change.Change.{Change}
use Rattle.audit_core.specs.Errand.{errand_in}
use Rattle.audit_core.specs.Routing.{Decides}
use Rattle.audit_core.specs.declared.settings.Settings.{Settings}
use Rattle.front_plants.specs.Fresh.{Openings}
use Rattle.front_plants.specs.Plants.{PlantTells}
use Rattle.logbook.specs.Pages.{Book}
use Rattle.route_history.specs.History.{History}
use Rattle.route_history.specs.declared.entry.Entry.{Entry}
use Rattle.serve_bays.specs.declared.options.RunOptions.{RunOptions}
use Rattle.serve_roles.specs.Doors.{BayHandles}
use Rattle.serve_roles.specs.declared.bay_end.BayEnd.{BayEnd}
use Rattle.serve_runs.specs.Served.{run_exchanges}
use Rattle.serve_runs.specs.declared.ended.Ended.{Ended}
use Rattle.session_core.specs.Exchange.{errand_after, routed_of, unrouted}
use Rattle.session_core.specs.declared.exchange.Exchange.{Exchange}
use Rattle.shared_routes.specs.Makers.{made_by}
use Rattle.shared_routes.specs.Shared.{Shared, seen_changes}
use Rattle.shared_runs.specs.Runs.{RunShared}

-- A request was decided by the rows after the changes that were seen then, and the change that it made, if it made one, stands next. Or
-- memory ran out before it was decided, and it made none. `seen` and `own` are the changes that the bay had seen and its own ones before
abbrev pub IsDecided : Settings → List Row → List Change → List (ℕ × Change) → List Change → List (ℕ × Change) → Exchange → Type 0
IsDecided set opening seen own new_seen new_own x =
    Decides set.endpoints (errand_after set x.offers (errand_in set x.request x.facts.received)) opening seen own new_seen new_own (routed_of x)
    ⊎ ((routed_of x ≡ unrouted) × IsLater seen new_seen × (new_own ≡ own))

-- requests were decided so one after another, and nothing else saw or made a change meanwhile
abbrev pub AreDecided : Settings → List Row → List Change → List (ℕ × Change) → List Exchange → List Change → List (ℕ × Change) → Type 0
AreDecided set opening seen own [] new_seen new_own = (new_seen ≡ seen) × (new_own ≡ own)
AreDecided set opening seen own (x ∷ xs) new_seen new_own =
    (mid_seen : List Change) × (mid_own : List (ℕ × Change)) × IsDecided set opening seen own mid_seen mid_own x
    × AreDecided set opening mid_seen mid_own xs new_seen new_own

-- Of the bay of that number: its requests were decided so from the beginning on. What it saw at its end is a prefix of these entries,
-- and the changes that its requests made are those of its number, each at its place
pub record BayDecided {L K Y D : Type 0} (set : Settings) (opening : List Row) (entries : List Entry) (xs : List Exchange) (bay : ℕ)
    (end : BayEnd Shared L K Y D) : Type 0 where
  pub seen : IsPrefix end.routes.entries entries
  pub decided : AreDecided set opening [] [] xs (seen_changes end.routes) (made_by bay 0 entries)

-- each entry of the run's history is of one of its bays, and each bay's requests were decided so
pub record RunDecided {L N W H K Y D C : Type 0} {h : BayHandles Shared L N W H K Y D C} {T : Type 0} {options : RunOptions}
    {opens : Openings} {home : Book} {before after : PlantTells C} {left : Ended History L W H K Y D} (set : Settings) (opening : List Row)
    (run : RunShared h T set options opens home opening before after left true) : Type 0 where
  pub by : All (λ (entry : Entry). entry.bay < length run.ended.bays.items) run.history
  pub each : (bay : ℕ) → IfSome (slice_get run.ended.bays.items bay) (BayDecided set opening run.history (run_exchanges run.run bay) bay)
