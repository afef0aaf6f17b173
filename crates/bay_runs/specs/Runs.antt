-- What a bay does at its door, connection after connection.
use Rattle.std.specs.Prelude.{◌≡◌, ℕ, Bool, true, false, List, [], ◌∷◌, ◌++◌, map, Option, Some, None, IfSome}
use Rattle.audit_core.specs.declared.settings.Settings.{Settings}
use Rattle.bay_runs.specs.Counts.{all_counted}
use Rattle.bay_runs.specs.declared.bay_stop.BayStop.{BayStop}
use Rattle.bay_runs.specs.declared.bay_stop.BayStop.TheVariants as bay_stop
use Rattle.bay_runs.specs.declared.end_counts.EndCounts.{EndCounts}
use Rattle.front_ports.specs.Cause.{Rose}
use Rattle.front_ports.specs.declared.door.Door as doors
use Rattle.front_ports.specs.declared.door.Visit.{Visit}
use Rattle.front_ports.specs.declared.stream.ByteSink as byte_sinks
use Rattle.front_ports.specs.declared.stream.Conn as conns
use Rattle.front_ports.specs.declared.stream.Source as sources
use Rattle.session_core.specs.Bays.{BayState}
use Rattle.session_core.specs.Connection.{ConnState, Serves}
use Rattle.session_core.specs.declared.conn_end.ConnEnd.{ConnEnd}
use Rattle.session_core.specs.declared.conn_end.ConnEnd.TheVariants as conn_end
use Rattle.session_core.specs.declared.exchange.Exchange.{Exchange}

-- ---- what is told

-- what a connection tells: the address of its peer, its bytes and faults, and what it will wish
pub record ConnTells : Type 0 where
  pub peer : List ℕ
  pub state : ConnState

abbrev pub conn_tells : {C : Type 0} → sources.Ghosts C → byte_sinks.Ghosts C → conns.Ghosts C → C → ConnTells
conn_tells s b c conn = record {
  peer = c.from conn;
  state = record {
    left = s.left conn;
    written = b.written conn;
    read_faults = s.read_faults conn;
    write_faults = b.write_faults conn;
    wishes = c.wishes conn;
  };
}

-- what a door tells: the connections that it will still give, those that it gave, and how often no other came and it failed
pub record DoorState (C : Type 0) : Type 0 where
  pub left : Option (List C)
  pub given : Option (List Visit)
  pub closes : ℕ
  pub faults : ℕ

abbrev pub door_state : {O C : Type 0} → doors.Ghosts O C → O → DoorState C
door_state d door = record {
  left = d.left door;
  given = d.given door;
  closes = d.closes door;
  faults = d.faults door;
}

-- a connection as the door gave it and as it was handed back, how it ended, and the exchanges that it had
pub record ServedConn (C : Type 0) : Type 0 where
  pub conn : C
  pub back : C
  pub end : ConnEnd
  pub exchanges : List Exchange

abbrev pub ends_of : {C : Type 0} → List (ServedConn C) → List ConnEnd
ends_of all = map (λ s. s.end) all

abbrev pub conns_of : {C : Type 0} → List (ServedConn C) → List C
conns_of all = map (λ s. s.conn) all

-- the exchanges of all of them, in order
abbrev pub exchanges_of : {C : Type 0} → List (ServedConn C) → List Exchange
exchanges_of [] = []
exchanges_of (s ∷ more) = s.exchanges ++ exchanges_of more

-- ---- connections one after another

-- each connection was served from the state that the one before left, and had these exchanges
abbrev pub Ran : {C : Type 0} → (C → ConnTells) → Settings → BayState → List (ServedConn C) → BayState → Type 0
Ran tells set m [] n = n ≡ m
Ran tells set m (s ∷ more) n =
    (k : BayState) × Serves set (tells s.conn).peer m k (tells s.conn).state (tells s.back).state s.end s.exchanges
    × Ran tells set k more n

-- ---- the door

-- the first of the connections to come were given, in order
abbrev pub GaveFirst : {C : Type 0} → Option (List C) → List C → Option (List C) → Type 0
GaveFirst None conns new = new ≡ None
GaveFirst {C = C} (Some due) conns new = (rest : List C) × (due ≡ conns ++ rest) × (new ≡ Some rest)

-- a visit is noted with its peer, with all bytes that it had to give, and with those written to it
pub record IsVisitOf (given back : ConnTells) (visit : Visit) : Type 0 where
  pub peer : visit.peer ≡ given.peer
  pub input : given.state.left ≡ Some visit.input
  pub output : back.state.written ≡ Some visit.output

abbrev pub AreVisitsOf : {C : Type 0} → (C → ConnTells) → List (ServedConn C) → List Visit → Type 0
AreVisitsOf tells [] visits = visits ≡ []
AreVisitsOf tells (s ∷ more) visits =
    (visit : Visit) × (rest : List Visit) × (visits ≡ visit ∷ rest)
    × IsVisitOf (tells s.conn) (tells s.back) visit × AreVisitsOf tells more rest

-- where a door tells what it gave, these joined it
abbrev pub NotesVisits : {C : Type 0} → (C → ConnTells) → Option (List Visit) → List (ServedConn C) → Option (List Visit) → Type 0
NotesVisits tells None all new = new ≡ None
NotesVisits tells (Some visits) all new =
    (more : List Visit) × AreVisitsOf tells all more × (new ≡ Some (visits ++ more))

-- ---- why a bay stopped

abbrev pub is_spent : ConnEnd → Bool
is_spent (conn_end.Stopped end) = false
is_spent conn_end.ReadFault = false
is_spent conn_end.WriteFault = false
is_spent conn_end.BackendCut = false
is_spent conn_end.StreamSpent = false
is_spent conn_end.NumbersSpent = true
is_spent conn_end.NoMemory = false

-- none of these found a request without a number
abbrev pub NoneSpent : List ConnEnd → Type 0
NoneSpent [] = Unit {0}
NoneSpent (end ∷ ends) = (is_spent end ≡ false) × NoneSpent ends

-- Closed where the door gave all its connections and said so, DoorFault where it failed, and NumbersSpent where the last
-- connection ended so, and none before it
abbrev pub StopsBy : {C : Type 0} → DoorState C → DoorState C → List ConnEnd → BayStop → Type 0
StopsBy d e ends bay_stop.Closed =
    Rose d.closes e.closes × (e.faults ≡ d.faults) × IfSome e.left (λ due. due ≡ []) × NoneSpent ends
StopsBy d e ends bay_stop.DoorFault =
    Rose d.faults e.faults × (e.closes ≡ d.closes) × NoneSpent ends
StopsBy d e ends bay_stop.NumbersSpent =
    (e.faults ≡ d.faults) × (e.closes ≡ d.closes)
    × (before : List ConnEnd) × NoneSpent before × (ends ≡ before ++ conn_end.NumbersSpent ∷ [])

-- ---- all that it does

pub record Runs {C : Type 0} (tells : C → ConnTells) (set : Settings) (m : BayState) (d : DoorState C) (stop : BayStop) (n : BayState)
    (e : DoorState C) (before after : EndCounts) : Type 0 where
  pub all : List (ServedConn C)
  pub ran : Ran tells set m all n
  pub gave : GaveFirst d.left (conns_of all) e.left
  pub noted : NotesVisits tells d.given all e.given
  pub counted : after ≡ all_counted before (ends_of all)
  pub stops : StopsBy d e (ends_of all) stop
