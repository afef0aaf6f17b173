-- A run that ships the lines of an input over a sink and a clock.
use Rattle.std.specs.Prelude.{◌≡◌, ℕ, List, [], ◌∷◌, Option, ⊤}
use Rattle.log_ship.specs.Chains.{Side}
use Rattle.log_ship.specs.Shipped.{ShipsInput}
use Rattle.log_ship.specs.declared.ship.Shipment.{Shipment}
use Rattle.retry_throttle.specs.declared.sent.Sent.{Sent}
use Rattle.retry_throttle.specs.declared.sent.Sent.TheVariants.{Done, GaveUp, Throttled}
use Rattle.log_ship.specs.Paces.{Told, Begins, before_of, setup_of, told_by}
use Rattle.log_ship.specs.declared.pace.ShipPace.{ShipPace}

-- from the first moment of the clock on, the lines of the input were shipped, from the first one that should be, up to its end or to what
-- stopped them
pub record Ships (pace : ShipPace) (old : Told) (left0 left : Option (List ℕ)) (rose : Type 0) (s : Shipment) (new : Told) : Type 0 where
  pub start : Side
  pub begins : Begins pace old start
  pub stop : Side
  pub ships : ShipsInput (setup_of pace) (before_of pace) start left0 left rose s.passed s.lines s.tally s.end stop
  pub new_is : new ≡ told_by stop.sink stop.clock

-- the last post of each batch is done
abbrev pub AreDone : List Sent → Type 0
AreDone [] = ⊤
AreDone (Done posts ∷ ends) = AreDone ends
AreDone (GaveUp posts last ∷ ends) = ⊥
AreDone (Throttled posts ∷ ends) = ⊥
