-- A run of the command `ship`.
use Rattle.std.specs.Prelude.{◌≡◌, ◌⊎◌, ℕ, List, [], ◌∷◌, Option, Some, None, Ok, Err, IfSome}
use Rattle.command_options.specs.declared.fault.WordsFault.TheVariants as words_fault
use Rattle.command_options.specs.declared.ranged.Ranged.{Ranged}
use Rattle.front_plants.specs.Fresh.{IsNewSink, Openings, hook_opens}
use Rattle.front_plants.specs.Plants.{Called, HasCause, PlantTells}
use Rattle.front_plants.specs.declared.call.PlantCall.TheVariants as calls
use Rattle.front_plants.specs.declared.call.PlantFail.{PlantFail}
use Rattle.log_ship.specs.declared.ship.Shipment.{Shipment}
use Rattle.command_ends.specs.Ports.{HasFailed, IsUntouched, Port}
use Rattle.command_ends.specs.declared.status.Status.{Status}
use Rattle.command_ends.specs.declared.status.Status.TheVariants.{Usage, Configuration, NoMemory}
use Rattle.refusal_text.specs.declared.refusal.Refusal.{Refusal}
use Rattle.ship_command.specs.Ended.{Left, EndsSo, TellsShip, status_of_fail, why_of}
use Rattle.log_ship.specs.Paces.{Told}
use Rattle.log_ship.specs.Runs.{Ships}
use Rattle.ship_command.specs.Ship.{ship_command}
use Rattle.ship_command.specs.declared.fault.ShipFault.{ShipFault}
use Rattle.ship_command.specs.declared.fault.ShipFault.TheVariants.{Words, Webhook}
use Rattle.ship_command.specs.declared.ship.ShipWords.{ShipWords}

-- nothing is there of a webhook and a clock, and nothing was read or written
pub record EndsEarly (input output : Port) (left : Left) : Type 0 where
  pub no_lines : left.shipment ≡ None
  pub no_sink : left.sink ≡ None
  pub no_clock : left.clock ≡ None
  pub unread : IsUntouched input
  pub unwritten : IsUntouched output

-- ---- words that are refused

-- they are with this fault, and this is told of it
abbrev pub RefusedBy : List (List ℕ) → ShipFault → Option Refusal → Type 0
RefusedBy words fault why = (ship_command words ≡ Err fault) × TellsShip fault why

-- by which status they are refused
abbrev pub Refuses : List (List ℕ) → Status → Option Refusal → Type 0
Refuses words Usage why = RefusedBy words (Words words_fault.Usage) why
Refuses words Configuration why =
    ((option : Ranged) × (n : ℕ) × RefusedBy words (Words (words_fault.Limits option n)) why)
    ⊎ ((url : List ℕ) × RefusedBy words (Webhook url) why)
Refuses words NoMemory why = Unit {0}
Refuses words _ why = ⊥

module _ {C : Type 0} where
  -- nothing was called then
  pub record IsRefused (words : List (List ℕ)) (m n : PlantTells C) (input output : Port) (left : Left) : Type 0 where
    pub refused : Refuses words left.status left.why
    pub no_call : n ≡ m
    pub early : EndsEarly input output left

  -- ---- words that are accepted

  -- the webhook could not be opened: its call failed, or memory ran out
  pub record CannotOpen (told : ShipWords) (m n : PlantTells C) (input output : Port) (left : Left) : Type 0 where
    pub called : Called m (calls.Hook told.url ∷ []) n
    pub fail : PlantFail
    pub cause : HasCause {T = Unit {0}} m.faults (Err fail) n.faults
    pub status_is : left.status ≡ status_of_fail fail
    pub why_is : left.why ≡ None
    pub early : EndsEarly input output left

  -- the webhook and a clock were opened, and the lines of the input were shipped over these
  pub record HasShipped (told : ShipWords) (opens : Openings) (m n : PlantTells C) (input output : Port) (left : Left) : Type 0 where
    pub called : Called m (calls.Hook told.url ∷ calls.Clock ∷ []) n
    pub none_failed : n.faults ≡ m.faults
    pub opened : Told
    pub new_sink : IsNewSink (hook_opens opens told.url) opened.sink
    pub no_moment : IfSome opened.clock.given (λ moments. moments ≡ [])
    pub shipment : Shipment
    pub new : Told
    pub ships : Ships told.pace opened input.before.told input.after.told (HasFailed input) shipment new
    pub ends : EndsSo shipment input output left.status
    pub why_is : left.why ≡ why_of left.status
    pub shipment_is : left.shipment ≡ Some shipment
    pub sink_is : left.sink ≡ Some new.sink
    pub clock_is : left.clock ≡ Some new.clock

  abbrev pub RunsOver : ShipWords → Openings → PlantTells C → PlantTells C → Port → Port → Left → Type 0
  RunsOver told opens m n input output left =
      CannotOpen told m n input output left ⊎ HasShipped told opens m n input output left

  -- a run: its words are refused, or they are accepted and it goes so
  abbrev pub Run : List (List ℕ) → Openings → PlantTells C → PlantTells C → Port → Port → Left → Type 0
  Run words opens m n input output left =
      IsRefused words m n input output left
      ⊎ ((told : ShipWords) × (ship_command words ≡ Ok told) × RunsOver told opens m n input output left)
