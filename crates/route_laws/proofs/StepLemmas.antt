-- Requests, one after another: by what each was decided.
use Rattle.std.proofs.Common.{◌≡◌, ◌⊎◌, ℕ, List, [], ◌∷◌, ◌++◌, Option, inl, inr, refl, sym, ap, subst, ◌∙◌}
use Rattle.apiservice_rows.specs.Row.{Row}
use Rattle.apiservice_table.specs.declared.change.Change.{Change}
use Rattle.audit_core.specs.Errand.{errand_in}
use Rattle.audit_core.specs.Offers.{Due}
use Rattle.audit_core.specs.Routing.{Decides}
use Rattle.audit_core.specs.declared.settings.Settings.{Settings}
use Rattle.audit_core.specs.declared.stamp.Stamp.{Stamp}
use Rattle.bay_runs.specs.Runs.{ConnTells, ServedConn, exchanges_of}
use Rattle.bay_runs.specs.Runs as runs
use Rattle.http_edge.specs.declared.request.Request.{Request}
use Rattle.route_laws.specs.Decided.{IsDecided, AreDecided}
use Rattle.session_core.specs.Bays.{BayState}
use Rattle.session_core.specs.Connection.{ConnState, HaltsAt, Ran, ServedBroken, Serves}
use Rattle.session_core.specs.Exchange.{ExchangedTo, Halted, StoppedAt, Unbegun, errand_after, routed_of}
use Rattle.session_core.specs.declared.conn_end.ConnEnd.{ConnEnd}
use Rattle.session_core.specs.declared.conn_end.ConnEnd.TheVariants as conn_end
use Rattle.session_core.specs.declared.exchange.Exchange.{Exchange}
use Rattle.stream_relay.specs.declared.stream.Relayed.{Relayed}
use Rattle.stream_relay.specs.declared.stream.Relayed.TheVariants as relayed

module _ (set : Settings) where
  joined : (opening : List Row) (seen : List Change) (own : List (ℕ × Change)) (xs ys : List Exchange) (mid_seen : List Change) (mid_own : List (ℕ × Change))
      (new_seen : List Change) (new_own : List (ℕ × Change)) → AreDecided set opening seen own xs mid_seen mid_own
      → AreDecided set opening mid_seen mid_own ys new_seen new_own → AreDecided set opening seen own (xs ++ ys) new_seen new_own
  joined opening seen own [] ys ms mo ns all_own a b =
      subst (λ (s : List Change). AreDecided set opening s own ys ns all_own) a.0 (subst (λ (o : List (ℕ × Change)). AreDecided set opening ms o ys ns all_own) a.1 b)
  joined opening seen own (x ∷ xs) ys ms mo ns all_own a b = (a.0, a.1, a.2, joined opening a.0 a.1 xs ys ms mo ns all_own a.3 b)

  -- a bay's requests were decided over rows that stay
  abbrev pub Goes : BayState → List Exchange → BayState → Type 0
  Goes m xs n = (n.opening ≡ m.opening) × AreDecided set m.opening m.seen m.own xs n.seen n.own

  goes_none : (m n : BayState) (xs : List Exchange) → n ≡ m → xs ≡ [] → Goes m xs n
  goes_none m n xs e f =
      let same : Goes m [] m = (refl, (refl, refl)) in
      subst (λ (k : BayState). Goes m xs k) (sym e) (subst (λ (ys : List Exchange). Goes m ys m) (sym f) same)

  goes_on : (m k n : BayState) (xs ys zs : List Exchange) → zs ≡ xs ++ ys → Goes m xs k → Goes k ys n → Goes m zs n
  goes_on m k n xs ys zs e a b =
      let all : Goes m (xs ++ ys) n = (
        b.0 ∙ a.0,
        joined m.opening m.seen m.own xs ys k.seen k.own n.seen n.own a.1 (subst (λ (o : List Row). AreDecided set o k.seen k.own ys n.seen n.own) a.0 b.1),
      ) in
      subst (λ (l : List Exchange). Goes m l n) (sym e) all

  own_request : (r : Request) (m n : BayState) (x : Exchange) → x.request ≡ r
      → Decides set.endpoints (errand_after set x.offers (errand_in set r x.facts.received)) m.opening m.seen m.own n.seen n.own (routed_of x)
      → IsDecided set m.opening m.seen m.own n.seen n.own x
  own_request r m n x e d =
      inl (subst (λ (q : Request). Decides set.endpoints (errand_after set x.offers (errand_in set q x.facts.received)) m.opening m.seen m.own n.seen n.own (routed_of x)) (sym e) d)

  exchanged : (peer : List ℕ) (r : Request) (m : BayState) (text : List ℕ) (n : BayState) (end : Relayed) (x : Exchange)
      → ExchangedTo set peer r m text n end x → Goes m (x ∷ []) n
  exchanged peer r m text n end x e = (e.opening_is, (n.seen, n.own, own_request r m n x e.request_is e.routed, (refl, refl)))

  stopped : (r : Request) (m n : BayState) (w0 w : Option (List ℕ)) (rose : Type 0) (stamp : Stamp) (due : List Due) (x : Exchange) → x.request ≡ r
      → StoppedAt set r m n w0 w rose stamp due x → IsDecided set m.opening m.seen m.own n.seen n.own x
  stopped r m n w0 w rose stamp due x e (inl u) = inr (u.routed_is, u.later, u.own_is)
  stopped r m n w0 w rose stamp due x e (inr (inl s)) = own_request r m n x e s.routed
  stopped r m n w0 w rose stamp due x e (inr (inr s)) = own_request r m n x e s.routed

  halted : (peer : List ℕ) (r : Request) (m n : BayState) (w0 w : Option (List ℕ)) (rose : Type 0) (x : Exchange)
      → Halted set peer r m n w0 w rose x → Goes m (x ∷ []) n
  halted peer r m n w0 w rose x h =
      (h.opening_is, (n.seen, n.own, stopped r m n w0 w rose h.begun.stamp h.due x h.request_is h.stopped, (refl, refl)))

  unbegun : (m n : BayState) (w0 w : Option (List ℕ)) → Unbegun m n w0 w → Goes m [] n
  unbegun m n w0 w u =
      (ap (λ (s : BayState). s.opening) u.same, (ap (λ (s : BayState). s.seen) u.same, ap (λ (s : BayState). s.own) u.same))

  ran : (peer : List ℕ) (m : BayState) (rs : List Request) (out : List ℕ) (n : BayState) (xs : List Exchange) → Ran set peer m rs out n xs → Goes m xs n
  ran peer m [] out n xs r = goes_none m n xs r.1 r.2
  ran peer m (q ∷ rs) out n xs r =
      goes_on m r.2 n (r.3 ∷ []) r.4 xs r.7 (exchanged peer q m r.0 r.2 relayed.Done r.3 r.5) (ran peer r.2 rs r.1 n r.4 r.8)

  broken : (peer : List ℕ) (m n : BayState) (c d : ConnState) (end : Relayed) (xs : List Exchange) → ServedBroken set peer m n c d end xs → Goes m xs n
  broken peer m n c d end xs s =
      goes_on m s.middle n s.before (s.x ∷ []) xs s.exchanges_are (ran peer m s.requests s.out s.middle s.before s.ran)
      (exchanged peer s.last s.middle s.text n end s.x s.broken)

  halts : (peer : List ℕ) (left : Option (List ℕ)) (requests : List Request) (m n : BayState) (w0 w : Option (List ℕ)) (rose : Type 0) (xs : List Exchange)
      → HaltsAt set peer left requests m n w0 w rose xs → Goes m xs n
  halts peer left requests m n w0 w rose xs (inl h) = subst (λ (l : List Exchange). Goes m l n) (sym h.0) (unbegun m n w0 w h.1)
  halts peer left requests m n w0 w rose xs (inr h) = subst (λ (l : List Exchange). Goes m l n) (sym h.2) (halted peer h.0 m n w0 w rose h.1 h.4)

  served : (peer : List ℕ) (m n : BayState) (c d : ConnState) (end : ConnEnd) (xs : List Exchange) → Serves set peer m n c d end xs → Goes m xs n
  served peer m n c d (conn_end.Stopped end) xs s = ran peer m s.requests s.out n xs s.ran
  served peer m n c d conn_end.ReadFault xs s = ran peer m s.0.requests s.0.out n xs s.0.ran
  served peer m n c d conn_end.WriteFault xs s =
      let t = s.0 in
      goes_on m t.middle n t.before (t.x ∷ []) xs t.exchanges_are (ran peer m t.requests t.out t.middle t.before t.ran)
      (exchanged peer t.last t.middle t.text n relayed.WriteFault t.x t.cut)
  served peer m n c d conn_end.BackendCut xs s = broken peer m n c d relayed.BackendCut xs s
  served peer m n c d conn_end.StreamSpent xs s = broken peer m n c d relayed.StreamSpent xs s
  served peer m n c d conn_end.NumbersSpent xs s = ran peer m s.requests s.out n xs s.ran
  served peer m n c d conn_end.NoMemory xs s =
      goes_on m s.middle n s.before s.last xs s.exchanges_are (ran peer m s.requests s.out s.middle s.before s.ran)
      (halts peer c.left s.requests s.middle n s.so_far d.written _ s.last s.halts)

  -- all connections of a bay
  pub connections : {C : Type 0} (tells : C → ConnTells) (m : BayState) (all : List (ServedConn C)) (n : BayState) → runs.Ran tells set m all n
      → Goes m (exchanges_of all) n
  connections tells m [] n r = goes_none m n [] r refl
  connections tells m (s ∷ more) n r =
      goes_on m r.0 n s.exchanges (exchanges_of more) (exchanges_of (s ∷ more)) refl
      (served (tells s.conn).peer m r.0 (tells s.conn).state (tells s.back).state s.end s.exchanges r.1) (connections tells r.0 more n r.2)
