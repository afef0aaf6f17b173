-- The exchanges of connections, one after another.
use Rattle.std.proofs.Common.{◌≡◌, ℕ, ◌+◌, false, List, [], ◌∷◌, ◌++◌, Option, None, Some, inl, inr, refl, sym, ap, subst, ◌∙◌, append_assoc, append-nil, length-append, arith}
use Rattle.audit_core.specs.Offers.{Due, offers_due}
use Rattle.audit_core.specs.Owed.{owed}
use Rattle.audit_core.specs.declared.offers.OfferNote.{OfferNote}
use Rattle.audit_core.specs.declared.settings.Settings.{Settings}
use Rattle.bay_runs.specs.Runs.{ConnTells, ServedConn, Ran, ends_of, exchanges_of}
use Rattle.bay_laws.specs.Whole.{SameLane, SameLanes, TellsEach, TellsAll, is_out_of_memory}
use Rattle.connection_laws.specs.Whole.{due_in, offered_in, offered_of, offers_in, Tells, CanLeave}
use Rattle.audit_core.specs.declared.offers.Outcome.{Outcome}
use Rattle.audit_core.specs.declared.sinks.Sink.{Sink}
use Rattle.audit_core.specs.declared.sinks.Sink.TheVariants.{Log, Webhook}
use Rattle.event_offers.specs.Lanes.{LaneState, LanesState}
use Rattle.event_offers.specs.Offering.{OffersFit, OffersTo, OffersAll}
use Rattle.front_ports.specs.Cause.{Rose}
use Rattle.front_ports.specs.Told.{Adds}
use Rattle.session_core.specs.Bays.{BayState}
use Rattle.http_edge.specs.declared.request.Request.{Request}
use Rattle.session_core.specs.Connection.{ConnState, Serves, HaltsAt, Ran as RanRequests, ServedBroken}
use Rattle.truncate_backend.specs.declared.fitted.Fit.{Fit}
use Rattle.truncate_backend.specs.declared.fitted.Fit.TheVariants as fit
use Rattle.session_core.specs.declared.conn_end.ConnEnd.{ConnEnd}
use Rattle.session_core.specs.declared.conn_end.ConnEnd.TheVariants as conn_end
use Rattle.stream_relay.specs.declared.stream.Relayed.{Relayed}
use Rattle.stream_relay.specs.declared.stream.Relayed.TheVariants as relayed
use Rattle.session_core.specs.declared.exchange.Exchange.{Exchange}

-- what the laws below say
abbrev pub Join : Type 0
Join = (these those : List Due) (m k n : LanesState) (notes more : List OfferNote)
    → OffersAll these m notes k → OffersAll those k more n → OffersAll (these ++ those) m (notes ++ more) n

abbrev pub ToldWhole : Type 0
ToldWhole = (set : Settings) (peer : List ℕ) (m n : BayState) (c d : ConnState) (end : ConnEnd) (xs : List Exchange)
    → Serves set peer m n c d end xs → (rest : List Due) × Tells set m n xs rest × CanLeave end rest

adds_join : {T : Type 0} (a b c : Option (List T)) (xs ys : List T) → Adds a b xs → Adds b c ys → Adds a c (xs ++ ys)
adds_join None b c xs ys h k = subst (λ o. Adds o c ys) h k
adds_join (Some l) b c xs ys h k =
    (subst (λ o. Adds o c ys) h k) ∙ ap Some (append_assoc l xs ys)

adds_none : {T : Type 0} (a : Option (List T)) → Adds a a []
adds_none None = refl
adds_none (Some xs) = ap Some (sym (append-nil xs))

due_append : (set : Settings) (xs ys : List Exchange) → due_in set (xs ++ ys) ≡ due_in set xs ++ due_in set ys
due_append set [] ys = refl
due_append set (x ∷ xs) ys =
    ap (λ l. offers_due set (owed x.decision x.facts) ++ l) (due_append set xs ys)
    ∙ sym (append_assoc (offers_due set (owed x.decision x.facts)) (due_in set xs) (due_in set ys))

offered_append : (set : Settings) (xs ys : List Exchange) → offered_in set (xs ++ ys) ≡ offered_in set xs ++ offered_in set ys
offered_append set [] ys = refl
offered_append set (x ∷ xs) ys =
    ap (λ l. offered_of set x ++ l) (offered_append set xs ys)
    ∙ sym (append_assoc (offered_of set x) (offered_in set xs) (offered_in set ys))

offers_append : (xs ys : List Exchange) → offers_in (xs ++ ys) ≡ offers_in xs ++ offers_in ys
offers_append [] ys = refl
offers_append (x ∷ xs) ys =
    ap (λ l. x.offers ++ l) (offers_append xs ys) ∙ sym (append_assoc x.offers (offers_in xs) (offers_in ys))

nothing_left : (end : ConnEnd) (rest : List Due) → CanLeave end rest → is_out_of_memory end ≡ false → rest ≡ []
nothing_left (conn_end.Stopped end) rest h e = h
nothing_left conn_end.ReadFault rest h e = h
nothing_left conn_end.WriteFault rest h e = h
nothing_left conn_end.BackendCut rest h e = h
nothing_left conn_end.StreamSpent rest h e = h
nothing_left conn_end.NumbersSpent rest h e = h
nothing_left conn_end.NoMemory rest h e = absurd (cc)

-- ---- what stays

same_line : (bay : ℕ) (written : Fit) (m : LaneState) (own : Outcome) (n : LaneState) → OffersFit bay written m own n → SameLane m n
same_line bay (fit.Whole bytes) m own n h =
    record { bay = ap (λ l. l.bay) h.after; home = ap (λ l. l.home) h.after; queued = ap (λ l. l.queued) h.after }
same_line bay (fit.Stripped bytes) m own n h =
    record { bay = ap (λ l. l.bay) h.after; home = ap (λ l. l.home) h.after; queued = ap (λ l. l.queued) h.after }
same_line bay (fit.TooLarge size) m own n h =
    record { bay = ap (λ l. l.bay) h.1; home = ap (λ l. l.home) h.1; queued = ap (λ l. l.queued) h.1 }

same_to : (sink : Sink) (written : Fit) (m : LanesState) (own : Outcome) (n : LanesState) → OffersTo sink written m own n → SameLanes m n
same_to Log written m own n h = record {
  bay = ap (λ l. l.bay) h.1;
  log = same_line m.bay written m.log own n.log h.0;
  hook = record { bay = ap (λ l. l.hook.bay) h.1; home = ap (λ l. l.hook.home) h.1; queued = ap (λ l. l.hook.queued) h.1 };
}
same_to Webhook written m own n h = record {
  bay = ap (λ l. l.bay) h.1;
  log = record { bay = ap (λ l. l.log.bay) h.1; home = ap (λ l. l.log.home) h.1; queued = ap (λ l. l.log.queued) h.1 };
  hook = same_line m.bay written m.hook own n.hook h.0;
}

lane_two : (m k n : LaneState) → SameLane m k → SameLane k n → SameLane m n
lane_two m k n h j = record { bay = j.bay ∙ h.bay; home = j.home ∙ h.home; queued = j.queued ∙ h.queued }

lanes_two : (m k n : LanesState) → SameLanes m k → SameLanes k n → SameLanes m n
lanes_two m k n h j = record {
  bay = j.bay ∙ h.bay;
  log = lane_two m.log k.log n.log h.log j.log;
  hook = lane_two m.hook k.hook n.hook h.hook j.hook;
}

lanes_none : (m : LanesState) → SameLanes m m
lanes_none m = record {
  bay = refl;
  log = record { bay = refl; home = refl; queued = refl };
  hook = record { bay = refl; home = refl; queued = refl };
}

same_all : (dues : List Due) (m : LanesState) (notes : List OfferNote) (n : LanesState) → OffersAll dues m notes n → SameLanes m n
same_all [] m notes n h = subst (λ (l : LanesState). SameLanes m l) (sym h.1) (lanes_none m)
same_all (due ∷ dues) m notes n h =
    lanes_two m h.2 n (same_to due.sink due.fit m h.0 h.2 h.3) (same_all dues h.2 h.1 n h.5)

-- the word of its audit IDs and its opening rows
abbrev pub Keeps : BayState → BayState → Type 0
Keeps m n = (n.boot ≡ m.boot) × (n.opening ≡ m.opening)

keeps_ran : (set : Settings) (peer : List ℕ) (m : BayState) (rs : List Request) (out : List ℕ) (n : BayState) (xs : List Exchange)
    → RanRequests set peer m rs out n xs → Keeps m n
keeps_ran set peer m [] out n xs h = (ap (λ (s : BayState). s.boot) h.1, ap (λ (s : BayState). s.opening) h.1)
keeps_ran set peer m (r ∷ rs) out n xs h =
    let later = keeps_ran set peer h.2 rs h.1 n h.4 h.8 in
    (later.0 ∙ h.5.boot_is, later.1 ∙ h.5.opening_is)

keeps_halts : (set : Settings) (peer : List ℕ) (left : Option (List ℕ)) (rs : List Request) (m n : BayState) (w0 w : Option (List ℕ))
    (rose : Type 0) (xs : List Exchange) → HaltsAt set peer left rs m n w0 w rose xs → Keeps m n
keeps_halts set peer left rs m n w0 w rose xs (inl h) =
    (ap (λ (s : BayState). s.boot) h.1.same, ap (λ (s : BayState). s.opening) h.1.same)
keeps_halts set peer left rs m n w0 w rose xs (inr h) = (h.4.boot_is, h.4.opening_is)

keeps_broken : (set : Settings) (peer : List ℕ) (m n : BayState) (c d : ConnState) (end : Relayed) (xs : List Exchange)
    → ServedBroken set peer m n c d end xs → Keeps m n
keeps_broken set peer m n c d end xs h =
    let first = keeps_ran set peer m h.requests h.out h.middle h.before h.ran in
    (h.broken.boot_is ∙ first.0, h.broken.opening_is ∙ first.1)

keeps_serves : (set : Settings) (peer : List ℕ) (m n : BayState) (c d : ConnState) (end : ConnEnd) (xs : List Exchange)
    → Serves set peer m n c d end xs → Keeps m n
keeps_serves set peer m n c d (conn_end.Stopped end) xs h = keeps_ran set peer m h.requests h.out n xs h.ran
keeps_serves set peer m n c d conn_end.ReadFault xs h = keeps_ran set peer m h.0.requests h.0.out n xs h.0.ran
keeps_serves set peer m n c d conn_end.WriteFault xs h =
    let first = keeps_ran set peer m h.0.requests h.0.out h.0.middle h.0.before h.0.ran in
    (h.0.cut.boot_is ∙ first.0, h.0.cut.opening_is ∙ first.1)
keeps_serves set peer m n c d conn_end.BackendCut xs h = keeps_broken set peer m n c d relayed.BackendCut xs h
keeps_serves set peer m n c d conn_end.StreamSpent xs h = keeps_broken set peer m n c d relayed.StreamSpent xs h
keeps_serves set peer m n c d conn_end.NumbersSpent xs h = keeps_ran set peer m h.requests h.out n xs h.ran
keeps_serves set peer m n c d conn_end.NoMemory xs h =
    let first = keeps_ran set peer m h.requests h.out h.middle h.before h.ran in
    let last = keeps_halts set peer c.left h.requests h.middle n h.so_far d.written (Rose c.write_faults d.write_faults) h.last h.halts in
    (last.0 ∙ first.0, last.1 ∙ first.1)

-- ---- all of them

none_told : (set : Settings) (m : BayState) → TellsAll set m m [] []
none_told set m = record {
  offered = (refl, refl);
  noted = adds_none m.notes;
  number_is = omega arith;
  whole = λ h. refl;
  lanes = lanes_none m.lanes;
  boot_is = refl;
  opening_is = refl;
}

more_told : Join → (set : Settings) (m k n : BayState) (end : ConnEnd) (ends : List ConnEnd) (xs ys : List Exchange) (rest : List Due)
    → Tells set m k xs rest → CanLeave end rest → Keeps m k → TellsAll set k n ends ys → TellsAll set m n (end ∷ ends) (xs ++ ys)
more_told join set m k n end ends xs ys rest h can kept j = record {
  offered = subst (λ l. OffersAll (offered_in set (xs ++ ys)) m.lanes l n.lanes) (sym (offers_append xs ys))
      (subst (λ d. OffersAll d m.lanes (offers_in xs ++ offers_in ys) n.lanes) (sym (offered_append set xs ys))
      (join (offered_in set xs) (offered_in set ys) m.lanes k.lanes n.lanes (offers_in xs) (offers_in ys) h.offered j.offered));
  noted = adds_join m.notes k.notes n.notes xs ys h.noted j.noted;
  number_is = omega (arith, h.number_is, j.number_is, length-append xs ys);
  whole = λ w. due_append set xs ys
      ∙ ap (λ l. l ++ due_in set ys)
      (h.due_is ∙ ap (λ l. offered_in set xs ++ l) (nothing_left end rest can w.0) ∙ append-nil (offered_in set xs))
      ∙ ap (λ l. offered_in set xs ++ l) (j.whole w.1)
      ∙ sym (offered_append set xs ys);
  lanes = lanes_two m.lanes k.lanes n.lanes (same_all (offered_in set xs) m.lanes (offers_in xs) k.lanes h.offered) j.lanes;
  boot_is = j.boot_is ∙ kept.0;
  opening_is = j.opening_is ∙ kept.1;
}

pub door_told : {C : Type 0} → Join → ToldWhole → (tells : C → ConnTells) (set : Settings) (m n : BayState) (all : List (ServedConn C))
    → Ran tells set m all n → TellsEach set m all n × TellsAll set m n (ends_of all) (exchanges_of all)
door_told join law tells set m n [] r = (r, subst (λ (b : BayState). TellsAll set m b [] []) (sym r) (none_told set m))
door_told join law tells set m n (s ∷ more) r =
    let own = law set (tells s.conn).peer m r.0 (tells s.conn).state (tells s.back).state s.end s.exchanges r.1 in
    let kept = keeps_serves set (tells s.conn).peer m r.0 (tells s.conn).state (tells s.back).state s.end s.exchanges r.1 in
    let later = door_told join law tells set r.0 n more r.2 in (
      (own.0, r.0, own.1, own.2, later.0),
      more_told join set m r.0 n s.end (ends_of more) s.exchanges (exchanges_of more) own.0 own.1 own.2 kept later.1,
    )
