-- Bays that served nothing yet.
use Rattle.std.specs.Prelude.{◌≡◌, ℕ, List, [], Option, IfSome}
use Rattle.std.specs.Arc.{arc_value}
use Rattle.audit_core.specs.declared.settings.Settings.{Settings}
use Rattle.bay_runs.specs.Counts.{no_ends}
use Rattle.front_plants.specs.Fresh.{IsNewClock, IsNewDial, IsNewDoor}
use Rattle.serve_roles.specs.Doors.{BayHandles}
use Rattle.serve_roles.specs.declared.bay_role.BayRole.{BayRole}

-- the bay of that number, at a door that gives what was due to it
pub record IsNewBay {R L N W H T K Y D C : Type 0} (h : BayHandles R L N W H K Y D C) (set : Settings) (boot : ℕ) (due : Option (List C)) (bay : ℕ)
    (role : BayRole R L W H T K Y D) : Type 0 where
  pub settings : arc_value role.own.settings ≡ set
  pub bay_is : role.own.bay.lanes.bay ≡ bay
  pub boot_is : role.own.bay.boot ≡ boot
  pub number : role.own.bay.number ≡ 0
  pub lines : (role.own.bay.lanes.log_lines ≡ 0) × (role.own.bay.lanes.hook_lines ≡ 0)
  pub dial : IsNewDial (h.dial.calls role.own.bay.dial) (h.dial.faults role.own.bay.dial) (h.dial.link_faults role.own.bay.dial)
  pub clock : IsNewClock (h.clock.given role.own.bay.clock) (h.clock.last role.own.bay.clock)
  pub diary : IfSome (h.diary.notes role.own.bay.diary) (λ notes. notes ≡ [])
  pub door : IsNewDoor (h.door.given role.door) (h.door.closes role.door) (h.door.faults role.door)
  pub due_is : h.door.left role.door ≡ due
  pub counts : role.counts ≡ no_ends

module _ {R L W H T K Y D : Type 0} where
  -- the routes of a bay, with its table
  abbrev pub routes_of : BayRole R L W H T K Y D → R
  routes_of role = role.own.bay.routes
