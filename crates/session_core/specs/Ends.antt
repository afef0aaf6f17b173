-- How a connection goes on from one request to the next, and how it ends where none came.
use Rattle.std.specs.Prelude.{◌≡◌, ◌<◌, ◌⊎◌, ℕ, Bool, List, Option, Some, None}
use Rattle.std.specs.Io.KnownBytes.{Appends, Consumes}
use Rattle.audit_core.specs.declared.settings.Settings.{Settings}
use Rattle.exchange_replies.specs.Own.{refusal_text}
use Rattle.front_base.specs.declared.audit_id.TheConstants.{MOST_REQUESTS}
use Rattle.front_ports.specs.Cause.{Rose}
use Rattle.front_ports.specs.Wishes.{GaveWishes}
use Rattle.front_ports.specs.Written.{AppendsFront}
use Rattle.http_edge.specs.Calls.{GotRequest, NoRequest}
use Rattle.http_edge.specs.Requests.{ReadsTo}
use Rattle.http_edge.specs.declared.request.End.TheVariants as end_case
use Rattle.http_edge.specs.declared.request.Request.{Request}
use Rattle.http_edge.specs.declared.request.Stop.{Stop}
use Rattle.http_edge.specs.declared.request.Stop.TheVariants as stop
use Rattle.session_core.specs.Bays.{BayState}
use Rattle.session_core.specs.Closing.{NoneWished, wishes_of}
use Rattle.session_core.specs.Connection.{ConnState, Ran, refusal_of}
use Rattle.session_core.specs.Parts.{Outcomes}
use Rattle.session_core.specs.declared.conn_end.ConnEnd.{ConnEnd}
use Rattle.session_core.specs.declared.conn_end.ConnEnd.TheVariants as conn_end
use Rattle.session_core.specs.declared.exchange.Exchange.{Exchange}
use Rattle.session_core.specs.declared.session.Outcome.{Outcome}
use Rattle.session_core.specs.declared.session.Outcome.TheVariants as outcome

abbrev pub end_of_stop : Stop → ConnEnd
end_of_stop (stop.Refused end) = conn_end.Stopped end
end_of_stop stop.ReadFault = conn_end.ReadFault
end_of_stop stop.NoMemory = conn_end.NoMemory

-- all of the refusal was written, or a prefix of it, since a write failed
abbrev pub Refuses : Option ℕ → Option (List ℕ) → Option (List ℕ) → Type 0 → Type 0
Refuses None old new rose = new ≡ old
Refuses (Some code) old new rose =
    Appends old new (refusal_text code) ⊎ (AppendsFront old new (refusal_text code) × rose)

-- what is written then
abbrev pub RefusesAt : Stop → Option (List ℕ) → Option (List ℕ) → Type 0 → Type 0
RefusesAt (stop.Refused end) old new rose = Refuses (refusal_of end) old new rose
RefusesAt stop.ReadFault old new rose = new ≡ old
RefusesAt stop.NoMemory old new rose = new ≡ old

-- ---- one request after another

-- how a connection ends after a request that was served so, or that it goes on
abbrev pub end_after : Outcome → Option ConnEnd
end_after outcome.Whole = None
end_after outcome.Last = Some (conn_end.Stopped end_case.Asked)
end_after outcome.Cut = Some conn_end.WriteFault
end_after outcome.BackendCut = Some conn_end.BackendCut
end_after outcome.StreamSpent = Some conn_end.StreamSpent
end_after outcome.NoMemory = Some conn_end.NoMemory

-- a request stood next: it was served, and this came of the connection, or there was no number for it
pub record HasNumber (set : Settings) (peer : List ℕ) (r : Request) (m n : BayState) (w0 w1 : Option (List ℕ)) (rose : Type 0)
    (v0 v1 : Option (List Bool)) (own : Option ConnEnd) : Type 0 where
  pub few : m.number < MOST_REQUESTS
  pub outcome : Outcome
  pub served : Outcomes set peer r m n w0 w1 rose v0 v1 outcome
  pub end_is : own ≡ end_after outcome

pub record HasNone (m n : BayState) (w0 w1 : Option (List ℕ)) (v0 v1 : Option (List Bool)) (own : Option ConnEnd) : Type 0 where
  pub all : m.number ≡ MOST_REQUESTS
  pub same : n ≡ m
  pub written : w1 ≡ w0
  pub wishes : v1 ≡ v0
  pub end_is : own ≡ Some conn_end.NumbersSpent

abbrev pub ServesOne : Settings → List ℕ → Request → BayState → BayState → Option (List ℕ) → Option (List ℕ) → Type 0
    → Option (List Bool) → Option (List Bool) → Option ConnEnd → Type 0
ServesOne set peer r m n w0 w1 rose v0 v1 own = HasNumber set peer r m n w0 w1 rose v0 v1 own ⊎ HasNone m n w0 w1 v0 v1 own

-- from the bytes held the next request was read and served, or none came
pub record ServesRead (set : Settings) (peer : List ℕ) (m n : BayState) (x y : List ℕ) (c d : ConnState) (own : Option ConnEnd) : Type 0 where
  pub request : Request
  pub got : GotRequest c.left d.left x y request
  pub serves : ServesOne set peer request m n c.written d.written (Rose c.write_faults d.write_faults) c.wishes d.wishes own

pub record ServesNone (m n : BayState) (x : List ℕ) (c d : ConnState) (own : Option ConnEnd) : Type 0 where
  pub stop : Stop
  pub none : NoRequest c.left d.left x (Rose c.read_faults d.read_faults) stop
  pub refuses : RefusesAt stop c.written d.written (Rose c.write_faults d.write_faults)
  pub wishes : d.wishes ≡ c.wishes
  pub same : n ≡ m
  pub end_is : own ≡ Some (end_of_stop stop)

abbrev pub ServesNext : Settings → List ℕ → BayState → BayState → List ℕ → List ℕ → ConnState → ConnState → Option ConnEnd → Type 0
ServesNext set peer m n x y c d own = ServesRead set peer m n x y c d own ⊎ ServesNone m n x c d own

-- so far: these requests were read from the bytes taken and served, noted as these exchanges, and these bytes are held. The
-- connection wished to go on after each of them
pub record SoFar (set : Settings) (peer : List ℕ) (m n : BayState) (left0 left : Option (List ℕ)) (held : List ℕ)
    (w0 w : Option (List ℕ)) (v0 v : Option (List Bool)) : Type 0 where
  pub requests : List Request
  pub taken : List ℕ
  pub consumed : Consumes left0 left taken
  pub reads : ReadsTo taken requests held
  pub out : List ℕ
  pub exchanges : List Exchange
  pub ran : Ran set peer m requests out n exchanges
  pub written : Appends w0 w out
  pub none : NoneWished exchanges
  pub gave : GaveWishes v0 (wishes_of exchanges) v
