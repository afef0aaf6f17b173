-- What a connection does (RFC 9112, section 9; Kubernetes, "API Aggregation Layer").
use Rattle.std.specs.Prelude.{◌≡◌, ◌⊎◌, ℕ, Bool, false, List, [], ◌∷◌, ◌++◌, take, Option, Some, None, IfSome}
use Rattle.std.specs.Io.KnownBytes.{Appends, Consumes}
use Rattle.audit_core.specs.declared.settings.Settings.{Settings}
use Rattle.exchange_replies.specs.Own.{refusal_text}
use Rattle.front_base.specs.declared.audit_id.TheConstants.{MOST_REQUESTS}
use Rattle.front_ports.specs.Cause.{Rose}
use Rattle.front_ports.specs.Wishes.{GaveWishes}
use Rattle.front_ports.specs.declared.stream.ByteSink as byte_sinks
use Rattle.front_ports.specs.declared.stream.Conn as conns
use Rattle.front_ports.specs.declared.stream.Source as sources
use Rattle.http_edge.specs.Requests.{IsRequests, IsUnfinished, ReadsTo, StartsWith, asks, on_asks}
use Rattle.http_edge.specs.declared.request.End.{End}
use Rattle.http_edge.specs.declared.request.End.TheVariants as end_case
use Rattle.http_edge.specs.declared.request.Request.{Request}
use Rattle.session_core.specs.Bays.{BayState}
use Rattle.session_core.specs.Closing.{LastWished, MayWish, NoneWished, wishes_of}
use Rattle.session_core.specs.Exchange.{Exchanged, ExchangedTo, Halted, Unbegun}
use Rattle.session_core.specs.declared.conn_end.ConnEnd.{ConnEnd}
use Rattle.session_core.specs.declared.conn_end.ConnEnd.TheVariants as conn_end
use Rattle.session_core.specs.declared.exchange.Exchange.{Exchange}
use Rattle.stream_relay.specs.declared.stream.Relayed.{Relayed}
use Rattle.stream_relay.specs.declared.stream.Relayed.TheVariants as relayed

-- what a connection tells: the bytes that are left to read, those that were written, how often a read or a write failed, and what
-- it will wish
pub record ConnState : Type 0 where
  pub left : Option (List ℕ)
  pub written : Option (List ℕ)
  pub read_faults : ℕ
  pub write_faults : ℕ
  pub wishes : Option (List Bool)

abbrev pub conn_state : {C : Type 0} → sources.Ghosts C → byte_sinks.Ghosts C → conns.Ghosts C → C → ConnState
conn_state s b k conn = record {
  left = s.left conn;
  written = b.written conn;
  read_faults = s.read_faults conn;
  write_faults = b.write_faults conn;
  wishes = k.wishes conn;
}

-- ---- requests one after another

-- requests were served one after another: these bytes are their replies, and they were noted as these exchanges
abbrev pub Ran : Settings → List ℕ → BayState → List Request → List ℕ → BayState → List Exchange → Type 0
Ran set peer m [] out n xs = (out ≡ []) × (n ≡ m) × (xs ≡ [])
Ran set peer m (r ∷ rs) out n xs =
    (text : List ℕ) × (rest : List ℕ) × (k : BayState) × (x : Exchange) × (ys : List Exchange)
    × Exchanged set peer r m text k x × (out ≡ text ++ rest) × (xs ≡ x ∷ ys) × Ran set peer k rs rest n ys

-- the bytes begin with these requests
abbrev pub FirstOf : List ℕ → List Request → Type 0
FirstOf bytes [] = Unit {0}
FirstOf bytes (r ∷ rs) = (after : List ℕ) × StartsWith bytes r after × on_asks (asks r) (rs ≡ []) (FirstOf after rs)

-- ---- why requests end

-- the bytes begin with these requests, and the connection wished to end after the last one: it ends as if that one had asked so
pub record EndsAsWished (bytes : List ℕ) (requests : List Request) (end : End) (xs : List Exchange) : Type 0 where
  pub first : FirstOf bytes requests
  pub end_is : end ≡ end_case.Asked
  pub last : LastWished xs

-- these are all requests of the bytes, and why they end; or those up to one after which the connection wished to end
abbrev pub AreServed : List ℕ → List Request → End → List Exchange → Type 0
AreServed bytes requests end xs = (NoneWished xs × IsRequests bytes requests end) ⊎ EndsAsWished bytes requests end xs

-- the code of the refusal that what is no request gets
abbrev pub refusal_of : End → Option ℕ
refusal_of end_case.Ended = None
refusal_of end_case.Asked = None
refusal_of end_case.BadHead = Some 400
refusal_of end_case.HeadTooLarge = Some 431
refusal_of end_case.BadFraming = Some 400
refusal_of end_case.BodyTooLarge = Some 413
refusal_of end_case.CutShort = None

-- after the replies all of that refusal was written, or a prefix of it, since a write failed. Where none is due, the replies alone were
abbrev pub WritesRefusal : ConnState → ConnState → List ℕ → Option ℕ → Type 0
WritesRefusal c d out None = Appends c.written d.written out
WritesRefusal c d out (Some code) =
    Appends c.written d.written (out ++ refusal_text code)
    ⊎ ((count : ℕ) × Appends c.written d.written (out ++ take count (refusal_text code)) × Rose c.write_faults d.write_faults)

-- all requests of the input were served, or those up to one after which the connection wished to end, and what is no request after
-- them was refused. It ends so also where the refusal could not be written whole, which the count of failed writes tells then
pub record ServedAll (set : Settings) (peer : List ℕ) (m n : BayState) (c d : ConnState) (end : End) (xs : List Exchange) : Type 0 where
  pub requests : List Request
  pub taken : List ℕ
  pub consumed : Consumes c.left d.left taken
  pub list : AreServed taken requests end xs
  pub whole : IfSome c.left (λ input. AreServed input requests end xs)
  pub out : List ℕ
  pub ran : Ran set peer m requests out n xs
  pub written : WritesRefusal c d out (refusal_of end)
  pub gave : GaveWishes c.wishes (wishes_of xs) d.wishes

-- the requests were served that stand whole in the bytes taken
pub record ServedTaken (set : Settings) (peer : List ℕ) (m n : BayState) (c d : ConnState) (xs : List Exchange) : Type 0 where
  pub requests : List Request
  pub taken : List ℕ
  pub rest : List ℕ
  pub consumed : Consumes c.left d.left taken
  pub reads : ReadsTo taken requests rest
  pub awaits : IsUnfinished rest
  pub out : List ℕ
  pub ran : Ran set peer m requests out n xs
  pub written : Appends c.written d.written out
  pub none : NoneWished xs
  pub gave : GaveWishes c.wishes (wishes_of xs) d.wishes

-- the first requests were served, and one more, of whose reply a prefix was written, since a write failed
pub record ServedCut (set : Settings) (peer : List ℕ) (m n : BayState) (c d : ConnState) (xs : List Exchange) : Type 0 where
  pub requests : List Request
  pub last : Request
  pub first : IfSome c.left (λ input. FirstOf input (requests ++ last ∷ []))
  pub out : List ℕ
  pub middle : BayState
  pub before : List Exchange
  pub ran : Ran set peer m requests out middle before
  pub text : List ℕ
  pub x : Exchange
  pub cut : ExchangedTo set peer last middle text n relayed.WriteFault x
  pub exchanges_are : xs ≡ before ++ x ∷ []
  pub count : ℕ
  pub written : Appends c.written d.written (out ++ take count text)
  pub none : NoneWished before
  pub gave : GaveWishes c.wishes (wishes_of xs) d.wishes

-- the first requests were served, and one more, whose reply streamed and ended so: all of its body that came was written
pub record ServedBroken (set : Settings) (peer : List ℕ) (m n : BayState) (c d : ConnState) (end : Relayed) (xs : List Exchange) : Type 0 where
  pub requests : List Request
  pub last : Request
  pub first : IfSome c.left (λ input. FirstOf input (requests ++ last ∷ []))
  pub out : List ℕ
  pub middle : BayState
  pub before : List Exchange
  pub ran : Ran set peer m requests out middle before
  pub text : List ℕ
  pub x : Exchange
  pub broken : ExchangedTo set peer last middle text n end x
  pub exchanges_are : xs ≡ before ++ x ∷ []
  pub written : Appends c.written d.written (out ++ text)
  pub none : NoneWished before
  pub gave : GaveWishes c.wishes (wishes_of xs) d.wishes

-- all numbers were used up, and one more request stands next
pub record ServedMost (set : Settings) (peer : List ℕ) (m n : BayState) (c d : ConnState) (xs : List Exchange) : Type 0 where
  pub requests : List Request
  pub next : Request
  pub first : IfSome c.left (λ input. FirstOf input (requests ++ next ∷ []))
  pub out : List ℕ
  pub ran : Ran set peer m requests out n xs
  pub written : Appends c.written d.written out
  pub all : n.number ≡ MOST_REQUESTS
  pub none : NoneWished xs
  pub gave : GaveWishes c.wishes (wishes_of xs) d.wishes

-- memory stopped the request after these, which left no trace or a part of what a request does; or no more was read. `rose` says that
-- a write failed
abbrev pub HaltsAt : Settings → List ℕ → Option (List ℕ) → List Request → BayState → BayState → Option (List ℕ) → Option (List ℕ) → Type 0
    → List Exchange → Type 0
HaltsAt set peer left requests m n w0 w rose xs =
    ((xs ≡ []) × Unbegun m n w0 w)
    ⊎ ((next : Request) × (x : Exchange) × (xs ≡ x ∷ []) × IfSome left (λ input. FirstOf input (requests ++ next ∷ []))
    × Halted set peer next m n w0 w rose x)

-- the connection was asked at the last of these once, or not at all
abbrev pub MayWishAt : Option (List Bool) → Option (List Bool) → List Exchange → Type 0
MayWishAt old new [] = new ≡ old
MayWishAt old new (x ∷ xs) = MayWish old new false x.wished

-- the first requests were served, and memory ran out then
pub record ServedFirst (set : Settings) (peer : List ℕ) (m n : BayState) (c d : ConnState) (xs : List Exchange) : Type 0 where
  pub requests : List Request
  pub first : IfSome c.left (λ input. FirstOf input requests)
  pub out : List ℕ
  pub middle : BayState
  pub before : List Exchange
  pub ran : Ran set peer m requests out middle before
  pub so_far : Option (List ℕ)
  pub written : Appends c.written so_far out
  pub last : List Exchange
  pub halts : HaltsAt set peer c.left requests middle n so_far d.written (Rose c.write_faults d.write_faults) last
  pub exchanges_are : xs ≡ before ++ last
  pub none : NoneWished before
  pub wishes : Option (List Bool)
  pub gave : GaveWishes c.wishes (wishes_of before) wishes
  pub may_wish : MayWishAt wishes d.wishes last

-- ---- what each end says, and which exchanges the connection had, the last one too where it was cut, broken or halted

abbrev pub Serves : Settings → List ℕ → BayState → BayState → ConnState → ConnState → ConnEnd → List Exchange → Type 0
Serves set peer m n c d (conn_end.Stopped end) xs = ServedAll set peer m n c d end xs
Serves set peer m n c d conn_end.ReadFault xs = ServedTaken set peer m n c d xs × Rose c.read_faults d.read_faults
Serves set peer m n c d conn_end.WriteFault xs = ServedCut set peer m n c d xs × Rose c.write_faults d.write_faults
Serves set peer m n c d conn_end.BackendCut xs = ServedBroken set peer m n c d relayed.BackendCut xs
Serves set peer m n c d conn_end.StreamSpent xs = ServedBroken set peer m n c d relayed.StreamSpent xs
Serves set peer m n c d conn_end.NumbersSpent xs = ServedMost set peer m n c d xs
Serves set peer m n c d conn_end.NoMemory xs = ServedFirst set peer m n c d xs
