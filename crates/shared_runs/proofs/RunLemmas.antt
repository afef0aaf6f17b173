-- A run whose routes share a table, told without the name of its history.
use Rattle.std.proofs.Common.{◌≡◌, ◌⊎◌, Bool, true, false, List, All, map, inl, inr, refl, ap, sym, subst, ◌∙◌}
use Rattle.apiservice_rows.specs.Row.{Row}
use Rattle.audit_core.specs.declared.settings.Settings.{Settings}
use Rattle.front_plants.specs.Plants.{PlantTells}
use Rattle.shared_runs.specs.Histories.{SawOne}
use Rattle.shared_runs.specs.Unnamed.{routes_of, unnamed_end}
use Rattle.logbook.specs.Pages.{Book}
use Rattle.front_plants.specs.Fresh.{Openings}
use Rattle.serve_bays.specs.declared.options.RunOptions.{RunOptions}
use Rattle.route_history.specs.History.{History}
use Rattle.route_history.specs.declared.entry.Entry.{Entry}
use Rattle.serve_roles.specs.Doors.{BayHandles}
use Rattle.serve_roles.specs.declared.bay_end.BayEnd.{BayEnd}
use Rattle.serve_runs.specs.Causes.{NoRun, NothingRan}
use Rattle.serve_runs.specs.Served.{RunServed}
use Rattle.serve_runs.specs.declared.ended.Ended.{Ended}
use Rattle.serve_runs.specs.declared.ended.RunStatus.{RunStatus}
use Rattle.shared_routes.specs.Makers.{AreMade}
use Rattle.shared_routes.specs.Shared.{Shared, AreNew}
use Rattle.shared_runs.specs.Runs.{RunShared}

module _ {L K Y D : Type 0} (home : Book) (opening : List Row) (ends : List (BayEnd Shared L K Y D)) where
  -- one list of entries that all saw, and which bays made where it was counted
  abbrev pub Counted : Bool → Type 0
  Counted counted = (history : List Entry) × All (SawOne home opening history) ends × (counted ≡ true → AreMade history (map routes_of ends))

  pub counted_or_seen : (counted : Bool)
      → (counted ≡ true → (history : List Entry) × All (SawOne home opening history) ends × AreMade history (map routes_of ends))
      → (history : List Entry) → All (SawOne home opening history) ends → Counted counted
  counted_or_seen true made history saw = let m = made refl in (m.0, m.1, λ _. m.2)
  counted_or_seen false made history saw = (history, saw, λ e. absurd (cc e))

module _ {L N W H K Y D C : Type 0} (h : BayHandles Shared L N W H K Y D C) (T : Type 0) (set : Settings) (options : RunOptions)
    (opens : Openings) (home : Book) (opening : List Row) (before after : PlantTells C) (tables : List Shared) (ended : Ended Shared L W H K Y D)
    (left : Ended History L W H K Y D) (counted : Bool) where
  pub told_shared : AreNew home opening 0 tables → Counted home opening ended.bays.items counted
      → left.bays.items ≡ map unnamed_end ended.bays.items
      → left.log ≡ ended.log → left.hook ≡ ended.hook → left.status ≡ ended.status
      → RunServed h T set options opens before after tables ended ⊎ NothingRan set options before after ended
      → RunShared h T set options opens home opening before after left counted ⊎ NothingRan set options before after left
  told_shared fresh saw are log hook status (inl run) = inl (record {
    tables = tables;
    fresh = fresh;
    ended = ended;
    run = run;
    history = saw.0;
    one = saw.1;
    made = saw.2;
    bays_are = are;
    sinks_are = (log, hook);
    status_is = status;
  })
  told_shared fresh saw are log hook status (inr n) =
      inr (record {
        none = are ∙ ap (map unnamed_end) n.none;
        cause = subst (λ (s : RunStatus). NoRun before.faults after.faults s) (sym status) n.cause;
        called = n.called;
      })
