-- How a run ended, by why its bays stopped.
use Rattle.std.specs.Prelude.{Bool, true, false, List, [], ◌∷◌, map, if◌then◌else◌}
use Rattle.bay_runs.specs.declared.bay_stop.BayStop.{BayStop}
use Rattle.bay_runs.specs.declared.bay_stop.BayStop.TheVariants.{Closed, DoorFault, NumbersSpent}
use Rattle.serve_roles.specs.declared.bay_end.BayEnd.{BayEnd}
use Rattle.serve_runs.specs.declared.ended.RunStatus.{RunStatus}
use Rattle.serve_runs.specs.declared.ended.RunStatus.TheVariants as run_status

abbrev pub any_fault : List BayStop → Bool
any_fault [] = false
any_fault (DoorFault ∷ stops) = true
any_fault (Closed ∷ stops) = any_fault stops
any_fault (NumbersSpent ∷ stops) = any_fault stops

abbrev pub any_spent : List BayStop → Bool
any_spent [] = false
any_spent (NumbersSpent ∷ stops) = true
any_spent (Closed ∷ stops) = any_spent stops
any_spent (DoorFault ∷ stops) = any_spent stops

-- a door's fault comes before spent numbers
abbrev pub status_of : List BayStop → RunStatus
status_of stops =
    (if any_fault stops then run_status.DoorFault else (if any_spent stops then run_status.NumbersSpent else run_status.Done))

abbrev pub stops_of : {R L K Y D : Type 0} → List (BayEnd R L K Y D) → List BayStop
stops_of ends = map (λ end. end.stop) ends
