-- All that a door's connections noted.
use Rattle.std.proofs.Common.{◌≡◌, ℕ, List, [], ◌∷◌, ◌++◌, Option, inl, inr, refl, ap, ap₂, sym, ◌∙◌}
use Rattle.alike_exchanges.specs.Alike.{AlikeExchanges}
use Rattle.alike_requests.specs.Alike.{AlikeSeen}
use Rattle.alike_requests.specs.Seen.{AreNoted, Seen, broken_seen, door_seen, halts_seen, noted_by, ran_seen, seen_of, serves_seen}
use Rattle.alike_requests.proofs.OfferLemmas.{DueParts, OwedParts}
use Rattle.alike_requests.proofs.ReplyLemmas.{OneKept}
use Rattle.alike_requests.proofs.RequestLemmas.{OwedAlike, halted_noted, one_alike, one_noted}
use Rattle.audit_core.specs.declared.settings.Settings.{Settings}
use Rattle.bay_runs.specs.Runs.{ConnTells, ServedConn, Ran as RanDoor, exchanges_of}
use Rattle.front_ports.specs.Cause.{Rose}
use Rattle.http_edge.specs.declared.request.Request.{Request}
use Rattle.role_threads.specs.Lists.{AllPairs}
use Rattle.session_core.specs.Bays.{BayState}
use Rattle.session_core.specs.Connection.{ConnState, HaltsAt, Ran, ServedBroken, Serves}
use Rattle.session_core.specs.declared.conn_end.ConnEnd.{ConnEnd}
use Rattle.session_core.specs.declared.conn_end.ConnEnd.TheVariants as conn_end
use Rattle.session_core.specs.declared.exchange.Exchange.{Exchange}
use Rattle.stream_relay.specs.declared.stream.Relayed.{Relayed}
use Rattle.stream_relay.specs.declared.stream.Relayed.TheVariants as relayed

-- ---- the exchanges of a door are these and no other

by_map : (these those : List Seen) → noted_by (these ++ those) ≡ noted_by these ++ noted_by those
by_map [] those = refl
by_map (s ∷ these) those = ap (λ (l : List Exchange). s.exchange ∷ l) (by_map these those)

ran_are : (set : Settings) (peer : List ℕ) (m : BayState) (rs : List Request) (out : List ℕ) (n : BayState) (xs : List Exchange)
    (h : Ran set peer m rs out n xs) → noted_by (ran_seen set peer m rs out n xs h) ≡ xs
ran_are set peer m [] out n xs h = sym h.2
ran_are set peer m (r ∷ rs) out n xs h =
    ap (λ (l : List Exchange). h.3 ∷ l) (ran_are set peer h.2 rs h.1 n h.4 h.8) ∙ sym h.7

halts_are : (set : Settings) (peer : List ℕ) (left : Option (List ℕ)) (rs : List Request) (m n : BayState) (w0 w : Option (List ℕ)) (rose : Type 0)
    (xs : List Exchange) (h : HaltsAt set peer left rs m n w0 w rose xs) → noted_by (halts_seen set peer left rs m n w0 w rose xs h) ≡ xs
halts_are set peer left rs m n w0 w rose xs (inl h) = sym h.0
halts_are set peer left rs m n w0 w rose xs (inr h) = sym h.2

-- the first ones, and those after them
both_are : (these those : List Seen) (before last xs : List Exchange) → noted_by these ≡ before → noted_by those ≡ last → xs ≡ before ++ last
    → noted_by (these ++ those) ≡ xs
both_are these those before last xs e f g = by_map these those ∙ (ap₂ (λ a b. a ++ b) e f ∙ sym g)

broken_are : (set : Settings) (peer : List ℕ) (m n : BayState) (c d : ConnState) (end : Relayed) (xs : List Exchange)
    (h : ServedBroken set peer m n c d end xs) → noted_by (broken_seen set peer m n c d end xs h) ≡ xs
broken_are set peer m n c d end xs h =
    both_are (ran_seen set peer m h.requests h.out h.middle h.before h.ran)
    (seen_of set peer h.last h.middle h.text n end h.x h.broken ∷ []) h.before (h.x ∷ []) xs
    (ran_are set peer m h.requests h.out h.middle h.before h.ran) refl h.exchanges_are

serves_are : (set : Settings) (peer : List ℕ) (m n : BayState) (c d : ConnState) (end : ConnEnd) (xs : List Exchange)
    (h : Serves set peer m n c d end xs) → noted_by (serves_seen set peer m n c d end xs h) ≡ xs
serves_are set peer m n c d (conn_end.Stopped end) xs h = ran_are set peer m h.requests h.out n xs h.ran
serves_are set peer m n c d conn_end.ReadFault xs h = ran_are set peer m h.0.requests h.0.out n xs h.0.ran
serves_are set peer m n c d conn_end.WriteFault xs h =
    both_are (ran_seen set peer m h.0.requests h.0.out h.0.middle h.0.before h.0.ran)
    (seen_of set peer h.0.last h.0.middle h.0.text n relayed.WriteFault h.0.x h.0.cut ∷ []) h.0.before (h.0.x ∷ []) xs
    (ran_are set peer m h.0.requests h.0.out h.0.middle h.0.before h.0.ran) refl h.0.exchanges_are
serves_are set peer m n c d conn_end.BackendCut xs h = broken_are set peer m n c d relayed.BackendCut xs h
serves_are set peer m n c d conn_end.StreamSpent xs h = broken_are set peer m n c d relayed.StreamSpent xs h
serves_are set peer m n c d conn_end.NumbersSpent xs h = ran_are set peer m h.requests h.out n xs h.ran
serves_are set peer m n c d conn_end.NoMemory xs h =
    both_are (ran_seen set peer m h.requests h.out h.middle h.before h.ran)
    (halts_seen set peer c.left h.requests h.middle n h.so_far d.written (Rose c.write_faults d.write_faults) h.last h.halts) h.before h.last xs
    (ran_are set peer m h.requests h.out h.middle h.before h.ran)
    (halts_are set peer c.left h.requests h.middle n h.so_far d.written (Rose c.write_faults d.write_faults) h.last h.halts) h.exchanges_are

pub door_notes : {C : Type 0} (tells : C → ConnTells) (set : Settings) (m : BayState) (all : List (ServedConn C)) (n : BayState) (r : RanDoor tells set m all n)
    → noted_by (door_seen tells set m all n r) ≡ exchanges_of all
door_notes tells set m [] n r = refl
door_notes tells set m (s ∷ more) n r =
    both_are (serves_seen set (tells s.conn).peer m r.0 (tells s.conn).state (tells s.back).state s.end s.exchanges r.1)
    (door_seen tells set r.0 more n r.2) s.exchanges (exchanges_of more) (s.exchanges ++ exchanges_of more)
    (serves_are set (tells s.conn).peer m r.0 (tells s.conn).state (tells s.back).state s.end s.exchanges r.1)
    (door_notes tells set r.0 more n r.2) refl

-- ---- each is how its request is recorded

noted_join : (set : Settings) (these those : List Seen) → AreNoted set these → AreNoted set those → AreNoted set (these ++ those)
noted_join set [] those g h = h
noted_join set (s ∷ these) those g h = (g.0, noted_join set these those g.1 h)

ran_noted : (set : Settings) (peer : List ℕ) (m : BayState) (rs : List Request) (out : List ℕ) (n : BayState) (xs : List Exchange)
    (h : Ran set peer m rs out n xs) → AreNoted set (ran_seen set peer m rs out n xs h)
ran_noted set peer m [] out n xs h = tt
ran_noted set peer m (r ∷ rs) out n xs h =
    (one_noted set peer r m h.0 h.2 relayed.Done h.3 h.5, ran_noted set peer h.2 rs h.1 n h.4 h.8)

halts_noted : (set : Settings) (peer : List ℕ) (left : Option (List ℕ)) (rs : List Request) (m n : BayState) (w0 w : Option (List ℕ)) (rose : Type 0)
    (xs : List Exchange) (h : HaltsAt set peer left rs m n w0 w rose xs) → AreNoted set (halts_seen set peer left rs m n w0 w rose xs h)
halts_noted set peer left rs m n w0 w rose xs (inl h) = tt
halts_noted set peer left rs m n w0 w rose xs (inr h) = (halted_noted set peer h.0 m n w0 w rose h.1 h.4, tt)

broken_noted : (set : Settings) (peer : List ℕ) (m n : BayState) (c d : ConnState) (end : Relayed) (xs : List Exchange)
    (h : ServedBroken set peer m n c d end xs) → AreNoted set (broken_seen set peer m n c d end xs h)
broken_noted set peer m n c d end xs h =
    noted_join set _ _ (ran_noted set peer m h.requests h.out h.middle h.before h.ran)
    (one_noted set peer h.last h.middle h.text n end h.x h.broken, tt)

serves_noted : (set : Settings) (peer : List ℕ) (m n : BayState) (c d : ConnState) (end : ConnEnd) (xs : List Exchange)
    (h : Serves set peer m n c d end xs) → AreNoted set (serves_seen set peer m n c d end xs h)
serves_noted set peer m n c d (conn_end.Stopped end) xs h = ran_noted set peer m h.requests h.out n xs h.ran
serves_noted set peer m n c d conn_end.ReadFault xs h = ran_noted set peer m h.0.requests h.0.out n xs h.0.ran
serves_noted set peer m n c d conn_end.WriteFault xs h =
    noted_join set _ _ (ran_noted set peer m h.0.requests h.0.out h.0.middle h.0.before h.0.ran)
    (one_noted set peer h.0.last h.0.middle h.0.text n relayed.WriteFault h.0.x h.0.cut, tt)
serves_noted set peer m n c d conn_end.BackendCut xs h = broken_noted set peer m n c d relayed.BackendCut xs h
serves_noted set peer m n c d conn_end.StreamSpent xs h = broken_noted set peer m n c d relayed.StreamSpent xs h
serves_noted set peer m n c d conn_end.NumbersSpent xs h = ran_noted set peer m h.requests h.out n xs h.ran
serves_noted set peer m n c d conn_end.NoMemory xs h =
    noted_join set _ _ (ran_noted set peer m h.requests h.out h.middle h.before h.ran)
    (halts_noted set peer c.left h.requests h.middle n h.so_far d.written (Rose c.write_faults d.write_faults) h.last h.halts)

pub door_noted : {C : Type 0} (tells : C → ConnTells) (set : Settings) (m : BayState) (all : List (ServedConn C)) (n : BayState) (r : RanDoor tells set m all n)
    → AreNoted set (door_seen tells set m all n r)
door_noted tells set m [] n r = tt
door_noted tells set m (s ∷ more) n r =
    noted_join set _ _ (serves_noted set (tells s.conn).peer m r.0 (tells s.conn).state (tells s.back).state s.end s.exchanges r.1)
    (door_noted tells set r.0 more n r.2)

-- ---- two doors

pub seen_alike_noted : OneKept → OwedParts → DueParts → OwedAlike → (set : Settings) (these those : List Seen) → AreNoted set these → AreNoted set those
    → AllPairs (AlikeSeen set) these those → AllPairs AlikeExchanges (noted_by these) (noted_by those)
seen_alike_noted one parts dues alike set [] [] g h a = tt
seen_alike_noted one parts dues alike set [] (t ∷ those) g h a = absurd a
seen_alike_noted one parts dues alike set (s ∷ these) [] g h a = absurd a
seen_alike_noted one parts dues alike set (s ∷ these) (t ∷ those) g h a =
    (one_alike one parts dues alike set s t g.0 h.0 a.0, seen_alike_noted one parts dues alike set these those g.1 h.1 a.1)
