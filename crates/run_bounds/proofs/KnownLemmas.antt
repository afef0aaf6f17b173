-- What is known of each exchange of a door's connections.
use Rattle.std.proofs.Common.{◌≡◌, ℕ, List, [], ◌∷◌, ◌++◌, Option, inl, inr, sym, subst}
use Rattle.std.specs.List.{AllByRecursion}
use Rattle.audit_core.specs.declared.settings.Settings.{Settings}
use Rattle.bay_runs.specs.Runs.{ConnTells, ServedConn, Ran as RanDoor, exchanges_of}
use Rattle.fact_ranges.specs.InRange.{AreInRange}
use Rattle.front_ports.specs.Cause.{Rose}
use Rattle.http_edge.specs.declared.request.Request.{Request}
use Rattle.run_bounds.specs.Bounds.{AllRead}
use Rattle.session_core.specs.Bays.{BayState}
use Rattle.session_core.specs.Connection.{ConnState, HaltsAt, Ran, ServedBroken, Serves}
use Rattle.session_core.specs.Exchange.{ExchangedTo, Halted, WasRead}
use Rattle.session_core.specs.declared.conn_end.ConnEnd.{ConnEnd}
use Rattle.session_core.specs.declared.conn_end.ConnEnd.TheVariants as conn_end
use Rattle.session_core.specs.declared.exchange.Exchange.{Exchange}
use Rattle.stream_relay.specs.declared.stream.Relayed.{Relayed}
use Rattle.stream_relay.specs.declared.stream.Relayed.TheVariants as relayed

-- its request was read, and its facts are in the range of their types
pub record IsKnown (x : Exchange) : Type 0 where
  pub read : WasRead x.request
  pub in_range : AreInRange x.facts

abbrev pub AllKnown : List Exchange → Type 0
AllKnown xs = AllByRecursion IsKnown xs

-- ---- lists

pub all_join : {A : Type 0} (P : A → Type 0) (xs ys : List A) → AllByRecursion P xs → AllByRecursion P ys → AllByRecursion P (xs ++ ys)
all_join P [] ys h k = k
all_join P (x ∷ xs) ys h k = (h.0, all_join P xs ys h.1 k)

pub all_read : (xs : List Exchange) → AllKnown xs → AllRead xs
all_read [] h = tt
all_read (x ∷ xs) h = (h.0.read, all_read xs h.1)

-- those before the last one, and the last one
with_last : (before : List Exchange) (x : Exchange) (xs : List Exchange) → xs ≡ before ++ x ∷ [] → AllKnown before → IsKnown x → AllKnown xs
with_last before x xs e h k = subst AllKnown (sym e) (all_join IsKnown before (x ∷ []) h (k, tt))

-- ---- one exchange

one_known : (set : Settings) (peer : List ℕ) (r : Request) (m : BayState) (text : List ℕ) (n : BayState) (end : Relayed) (x : Exchange)
    → ExchangedTo set peer r m text n end x → IsKnown x
one_known set peer r m text n end x h = record { read = subst WasRead (sym h.request_is) h.read; in_range = h.in_range }

halted_known : (set : Settings) (peer : List ℕ) (r : Request) (m n : BayState) (w0 w : Option (List ℕ)) (rose : Type 0) (x : Exchange)
    → Halted set peer r m n w0 w rose x → IsKnown x
halted_known set peer r m n w0 w rose x h = record { read = subst WasRead (sym h.request_is) h.read; in_range = h.in_range }

-- ---- one after another

ran_known : (set : Settings) (peer : List ℕ) (m : BayState) (rs : List Request) (out : List ℕ) (n : BayState) (xs : List Exchange)
    → Ran set peer m rs out n xs → AllKnown xs
ran_known set peer m [] out n xs h = subst AllKnown (sym h.2) tt
ran_known set peer m (r ∷ rs) out n xs h =
    subst AllKnown (sym h.7) (one_known set peer r m h.0 h.2 relayed.Done h.3 h.5, ran_known set peer h.2 rs h.1 n h.4 h.8)

broken_known : (set : Settings) (peer : List ℕ) (m n : BayState) (c d : ConnState) (end : Relayed) (xs : List Exchange)
    → ServedBroken set peer m n c d end xs → AllKnown xs
broken_known set peer m n c d end xs h =
    with_last h.before h.x xs h.exchanges_are
    (ran_known set peer m h.requests h.out h.middle h.before h.ran) (one_known set peer h.last h.middle h.text n end h.x h.broken)

halts_known : (set : Settings) (peer : List ℕ) (left : Option (List ℕ)) (rs : List Request) (m n : BayState) (w0 w : Option (List ℕ)) (rose : Type 0)
    (xs : List Exchange) → HaltsAt set peer left rs m n w0 w rose xs → AllKnown xs
halts_known set peer left rs m n w0 w rose xs (inl h) = subst AllKnown (sym h.0) tt
halts_known set peer left rs m n w0 w rose xs (inr h) = subst AllKnown (sym h.2) (halted_known set peer h.0 m n w0 w rose h.1 h.4, tt)

-- ---- a connection, and a door

serves_known : (set : Settings) (peer : List ℕ) (m n : BayState) (c d : ConnState) (end : ConnEnd) (xs : List Exchange)
    → Serves set peer m n c d end xs → AllKnown xs
serves_known set peer m n c d (conn_end.Stopped end) xs h = ran_known set peer m h.requests h.out n xs h.ran
serves_known set peer m n c d conn_end.ReadFault xs h = ran_known set peer m h.0.requests h.0.out n xs h.0.ran
serves_known set peer m n c d conn_end.WriteFault xs h =
    with_last h.0.before h.0.x xs h.0.exchanges_are
    (ran_known set peer m h.0.requests h.0.out h.0.middle h.0.before h.0.ran)
    (one_known set peer h.0.last h.0.middle h.0.text n relayed.WriteFault h.0.x h.0.cut)
serves_known set peer m n c d conn_end.BackendCut xs h = broken_known set peer m n c d relayed.BackendCut xs h
serves_known set peer m n c d conn_end.StreamSpent xs h = broken_known set peer m n c d relayed.StreamSpent xs h
serves_known set peer m n c d conn_end.NumbersSpent xs h = ran_known set peer m h.requests h.out n xs h.ran
serves_known set peer m n c d conn_end.NoMemory xs h =
    subst AllKnown (sym h.exchanges_are)
    (all_join IsKnown h.before h.last (ran_known set peer m h.requests h.out h.middle h.before h.ran)
    (halts_known set peer c.left h.requests h.middle n h.so_far d.written (Rose c.write_faults d.write_faults) h.last h.halts))

pub door_known : {C : Type 0} (tells : C → ConnTells) (set : Settings) (m : BayState) (all : List (ServedConn C)) (n : BayState) → RanDoor tells set m all n
    → AllKnown (exchanges_of all)
door_known tells set m [] n r = tt
door_known tells set m (s ∷ more) n r =
    all_join IsKnown s.exchanges (exchanges_of more)
    (serves_known set (tells s.conn).peer m r.0 (tells s.conn).state (tells s.back).state s.end s.exchanges r.1)
    (door_known tells set r.0 more n r.2)
