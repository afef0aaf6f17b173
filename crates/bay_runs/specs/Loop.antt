-- How far a bay came at its door.
use Rattle.std.specs.Prelude.{◌≡◌, List, [], ◌∷◌}
use Rattle.audit_core.specs.declared.settings.Settings.{Settings}
use Rattle.bay_runs.specs.Counts.{counted, all_counted}
use Rattle.bay_runs.specs.Runs.{ConnTells, DoorState, ServedConn, Ran, GaveFirst, NotesVisits, NoneSpent, StopsBy, ends_of, conns_of}
use Rattle.bay_runs.specs.declared.bay_stop.BayStop.{BayStop}
use Rattle.bay_runs.specs.declared.end_counts.EndCounts.{EndCounts}
use Rattle.session_core.specs.Bays.{BayState}
use Rattle.session_core.specs.Connection.{Serves}
use Rattle.session_core.specs.declared.conn_end.ConnEnd.{ConnEnd}
use Rattle.session_core.specs.declared.exchange.Exchange.{Exchange}

-- the next connection was given, served, handed back and counted
pub record ServesNext {C : Type 0} (tells : C → ConnTells) (set : Settings) (m : BayState) (d : DoorState C) (end : ConnEnd) (n : BayState)
    (e : DoorState C) (before after : EndCounts) : Type 0 where
  pub conn : C
  pub back : C
  pub exchanges : List Exchange
  pub serves : Serves set (tells conn).peer m n (tells conn).state (tells back).state end exchanges
  pub gave : GaveFirst d.left (conn ∷ []) e.left
  pub noted : NotesVisits tells d.given (record { conn = conn; back = back; end = end; exchanges = exchanges } ∷ []) e.given
  pub closes : e.closes ≡ d.closes
  pub faults : e.faults ≡ d.faults
  pub counted : after ≡ counted before end

-- no connection was given
pub record GivesNone {C : Type 0} (d e : DoorState C) (stop : BayStop) : Type 0 where
  pub left : e.left ≡ d.left
  pub given : e.given ≡ d.given
  pub stops : StopsBy d e [] stop

-- these connections were served, and each request of theirs had a number
pub record SoFar {C : Type 0} (tells : C → ConnTells) (set : Settings) (m : BayState) (d : DoorState C) (n : BayState) (e : DoorState C)
    (before after : EndCounts) : Type 0 where
  pub all : List (ServedConn C)
  pub ran : Ran tells set m all n
  pub gave : GaveFirst d.left (conns_of all) e.left
  pub noted : NotesVisits tells d.given all e.given
  pub counted : after ≡ all_counted before (ends_of all)
  pub none : NoneSpent (ends_of all)
  pub closes : e.closes ≡ d.closes
  pub faults : e.faults ≡ d.faults
