-- What the connections of a door do together (Kubernetes, "Auditing").
use Rattle.std.specs.Prelude.{◌≡◌, ◌+◌, Bool, true, false, List, [], ◌∷◌, length}
use Rattle.audit_core.specs.Offers.{Due}
use Rattle.audit_core.specs.declared.settings.Settings.{Settings}
use Rattle.bay_runs.specs.Runs.{ServedConn}
use Rattle.connection_laws.specs.Whole.{Tells, CanLeave, due_in, offered_in, offers_in}
use Rattle.event_offers.specs.Lanes.{LaneState, LanesState}
use Rattle.event_offers.specs.Offering.{OffersAll}
use Rattle.front_ports.specs.Told.{Adds}
use Rattle.session_core.specs.Bays.{BayState}
use Rattle.session_core.specs.declared.conn_end.ConnEnd.{ConnEnd}
use Rattle.session_core.specs.declared.conn_end.ConnEnd.TheVariants as conn_end
use Rattle.session_core.specs.declared.exchange.Exchange.{Exchange}

abbrev pub is_out_of_memory : ConnEnd → Bool
is_out_of_memory (conn_end.Stopped end) = false
is_out_of_memory conn_end.ReadFault = false
is_out_of_memory conn_end.WriteFault = false
is_out_of_memory conn_end.BackendCut = false
is_out_of_memory conn_end.StreamSpent = false
is_out_of_memory conn_end.NumbersSpent = false
is_out_of_memory conn_end.NoMemory = true

-- none of these ran out of memory
abbrev pub AllInMemory : List ConnEnd → Type 0
AllInMemory [] = Unit {0}
AllInMemory (end ∷ ends) = (is_out_of_memory end ≡ false) × AllInMemory ends

-- the exchanges of each connection are told whole, one connection after another
abbrev pub TellsEach : {C : Type 0} → Settings → BayState → List (ServedConn C) → BayState → Type 0
TellsEach set m [] n = n ≡ m
TellsEach set m (s ∷ more) n =
    (rest : List Due) × (k : BayState) × Tells set m k s.exchanges rest × CanLeave s.end rest × TellsEach set k more n

-- what no offer changes of a lane, and of a bay's lanes
pub record SameLane (m n : LaneState) : Type 0 where
  pub bay : n.bay ≡ m.bay
  pub home : n.home ≡ m.home
  pub queued : n.queued ≡ m.queued

pub record SameLanes (m n : LanesState) : Type 0 where
  pub bay : n.bay ≡ m.bay
  pub log : SameLane m.log n.log
  pub hook : SameLane m.hook n.hook

-- a bay's diary, its lanes and its numbers tell these exchanges and no other. Where no connection ran out of memory, each offer
-- that they are due was made
pub record TellsAll (set : Settings) (m n : BayState) (ends : List ConnEnd) (xs : List Exchange) : Type 0 where
  pub offered : OffersAll (offered_in set xs) m.lanes (offers_in xs) n.lanes
  pub noted : Adds m.notes n.notes xs
  pub number_is : n.number ≡ m.number + length xs
  pub whole : AllInMemory ends → due_in set xs ≡ offered_in set xs
  pub lanes : SameLanes m.lanes n.lanes
  pub boot_is : n.boot ≡ m.boot
  pub opening_is : n.opening ≡ m.opening
