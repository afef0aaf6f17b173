-- Which runs are done.
use Rattle.std.proofs.Common.{◌≡◌, Bool, true, false, if◌then◌else◌, List, [], ◌∷◌, refl, ap, ◌∙◌}
use Rattle.std.proofs.lemmas.List.Elements.{All-cons, All-head, All-nil, All-tail}
use Rattle.bay_runs.specs.declared.bay_stop.BayStop.{BayStop}
use Rattle.bay_runs.specs.declared.bay_stop.BayStop.TheVariants.{Closed, DoorFault, NumbersSpent}
use Rattle.run_laws.specs.Kept.{AllClosed}
use Rattle.serve_roles.specs.declared.bay_end.BayEnd.{BayEnd}
use Rattle.serve_runs.specs.Status.{any_fault, status_of, stops_of}
use Rattle.serve_runs.specs.declared.ended.RunStatus.TheVariants as run_status

not_done : (fault : Bool) → (if fault then run_status.DoorFault else run_status.NumbersSpent) ≡ run_status.Done → ⊥
not_done true e = cc
not_done false e = cc

first_closed : (stop : BayStop) (stops : List BayStop) → status_of (stop ∷ stops) ≡ run_status.Done
    → (stop ≡ Closed) × (status_of stops ≡ run_status.Done)
first_closed Closed stops e = (refl, e)
first_closed DoorFault stops e = cc
first_closed NumbersSpent stops e = absurd (not_done (any_fault stops) e)

module _ {R L K Y D : Type 0} where
  abbrev Closes : BayEnd R L K Y D → Type 0
  Closes end = end.stop ≡ Closed

  pub closed_where_done : (bays : List (BayEnd R L K Y D)) → status_of (stops_of bays) ≡ run_status.Done → AllClosed bays
  closed_where_done [] e = All-nil Closes
  closed_where_done (end ∷ bays) e =
      let first = first_closed end.stop (stops_of bays) e in
      All-cons Closes end bays first.0 (closed_where_done bays first.1)

  pub done_where_closed : (bays : List (BayEnd R L K Y D)) → AllClosed bays → status_of (stops_of bays) ≡ run_status.Done
  done_where_closed [] all = refl
  done_where_closed (end ∷ bays) all =
      ap (λ stop. status_of (stop ∷ stops_of bays)) (All-head Closes end bays all)
      ∙ done_where_closed bays (All-tail Closes end bays all)
