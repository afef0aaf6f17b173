-- Connections that a door gave one after another.
use Rattle.std.proofs.Common.{◌≡◌, ℕ, true, false, List, [], ◌∷◌, ◌++◌, Option, Some, None, IfSome, refl, sym, ap, subst, ◌∙◌, append_assoc, append-nil}
use Rattle.audit_core.specs.declared.settings.Settings.{Settings}
use Rattle.bay_runs.specs.Counts.{counted, all_counted}
use Rattle.bay_runs.specs.Loop.{ServesNext, GivesNone, SoFar}
use Rattle.bay_runs.specs.Runs.{ConnTells, DoorState, ServedConn, Ran, GaveFirst, AreVisitsOf, NotesVisits, NoneSpent, StopsBy, Runs, is_spent, ends_of, conns_of}
use Rattle.bay_runs.specs.declared.bay_stop.BayStop.{BayStop}
use Rattle.bay_runs.specs.declared.bay_stop.BayStop.TheVariants as bay_stop
use Rattle.bay_runs.specs.declared.end_counts.EndCounts.{EndCounts}
use Rattle.front_ports.specs.Cause.{Rose}
use Rattle.front_ports.specs.Doors.{GivesFirst, NotesVisit, NotesOutput}
use Rattle.front_ports.specs.declared.door.Visit.{Visit}
use Rattle.session_core.specs.Bays.{BayState}
use Rattle.session_core.specs.Connection.{Serves}
use Rattle.session_core.specs.declared.conn_end.ConnEnd.{ConnEnd}
use Rattle.session_core.specs.declared.conn_end.ConnEnd.TheVariants as conn_end

-- ---- one step of the door

pub gave_one : {C : Type 0} (a b : Option (List C)) (c : C) → GivesFirst a b (Some c) → GaveFirst a (c ∷ []) b
gave_one None b c h = h
gave_one (Some due) b c h = h

pub closed_left : {C : Type 0} (a b : Option (List C)) → GivesFirst a b None → (b ≡ a) × IfSome b (λ due. due ≡ [])
closed_left None b h = (h, subst (λ o. IfSome o (λ due. due ≡ [])) (sym h) tt)
closed_left (Some due) b h =
    (h.1 ∙ ap Some (sym h.0), subst (λ o. IfSome o (λ due. due ≡ [])) (sym h.1) refl)

noted_rest : {C : Type 0} (tells : C → ConnTells) (visits : List Visit) (b c : Option (List Visit)) (s : ServedConn C)
    (visit : Visit) (output : List ℕ) → b ≡ Some (visits ++ visit ∷ []) → visit.peer ≡ (tells s.conn).peer
    → (tells s.conn).state.left ≡ Some visit.input → NotesOutput b c (tells s.back).state.written
    → NotesVisits tells (Some visits) (s ∷ []) c
noted_rest tells visits b c s visit output e peer input h =
    let k = subst (λ (o : Option (List Visit)). NotesOutput o c (tells s.back).state.written) e h in (
      record visit { output = k.0 } ∷ [],
      (record visit { output = k.0 }, [], refl, record { peer = peer; input = input; output = k.1 }, refl),
      k.3 visits visit refl,
    )

pub noted_one : {C : Type 0} (tells : C → ConnTells) (a b c : Option (List Visit)) (s : ServedConn C)
    → NotesVisit a b (tells s.conn).peer (tells s.conn).state.left (tells s.conn).state.written
    → NotesOutput b c (tells s.back).state.written → NotesVisits tells a (s ∷ []) c
noted_one tells None b c s h k =
    subst (λ (o : Option (List Visit)). NotesOutput o c (tells s.back).state.written) h k
noted_one tells (Some visits) b c s h k =
    noted_rest tells visits b c s (record { peer = (tells s.conn).peer; input = h.0; output = h.1 }) h.1 h.4 refl h.2 k

-- ---- one after another

ran_more : {C : Type 0} (tells : C → ConnTells) (set : Settings) (m k n : BayState) (all : List (ServedConn C)) (s : ServedConn C)
    → Ran tells set m all k → Serves set (tells s.conn).peer k n (tells s.conn).state (tells s.back).state s.end s.exchanges
    → Ran tells set m (all ++ s ∷ []) n
ran_more tells set m k n [] s r h = (
  n,
  subst (λ (b : BayState). Serves set (tells s.conn).peer b n (tells s.conn).state (tells s.back).state s.end s.exchanges) r h,
  refl,
)
ran_more tells set m k n (t ∷ more) s r h = (r.0, r.1, ran_more tells set r.0 k n more s r.2 h)

gave_more : {C : Type 0} (a b c : Option (List C)) (all : List C) (x : C) → GaveFirst a all b → GaveFirst b (x ∷ []) c
    → GaveFirst a (all ++ x ∷ []) c
gave_more {C = C} None b c all x h k = subst (λ (o : Option (List C)). GaveFirst o (x ∷ []) c) h k
gave_more {C = C} (Some due) b c all x h k =
    let j = subst (λ (o : Option (List C)). GaveFirst o (x ∷ []) c) h.2 k in
    (j.0, h.1 ∙ ap (λ l. all ++ l) j.1 ∙ sym (append_assoc all (x ∷ []) j.0), j.2)

visits_more : {C : Type 0} (tells : C → ConnTells) (all more : List (ServedConn C)) (vs ws : List Visit) → AreVisitsOf tells all vs
    → AreVisitsOf tells more ws → AreVisitsOf tells (all ++ more) (vs ++ ws)
visits_more tells [] more vs ws h k = subst (λ l. AreVisitsOf tells more (l ++ ws)) (sym h) k
visits_more tells (s ∷ all) more vs ws h k =
    (h.0, h.1 ++ ws, ap (λ l. l ++ ws) h.2, h.3, visits_more tells all more h.1 ws h.4 k)

notes_more : {C : Type 0} (tells : C → ConnTells) (a b c : Option (List Visit)) (all more : List (ServedConn C)) → NotesVisits tells a all b
    → NotesVisits tells b more c → NotesVisits tells a (all ++ more) c
notes_more tells None b c all more h k = subst (λ (o : Option (List Visit)). NotesVisits tells o more c) h k
notes_more tells (Some visits) b c all more h k =
    let j = subst (λ (o : Option (List Visit)). NotesVisits tells o more c) h.2 k in
    (h.0 ++ j.0, visits_more tells all more h.0 j.0 h.1 j.1, j.2 ∙ ap Some (append_assoc visits h.0 j.0))

counted_more : (counts : EndCounts) (ends : List ConnEnd) (end : ConnEnd)
    → all_counted counts (ends ++ end ∷ []) ≡ counted (all_counted counts ends) end
counted_more counts [] end = refl
counted_more counts (x ∷ xs) end = counted_more (counted counts x) xs end

none_more : (ends : List ConnEnd) (end : ConnEnd) → NoneSpent ends → is_spent end ≡ false → NoneSpent (ends ++ end ∷ [])
none_more [] end h e = (e, tt)
none_more (x ∷ xs) end h e = (h.0, none_more xs end h.1 e)

ends_more : {C : Type 0} (all : List (ServedConn C)) (s : ServedConn C) → ends_of (all ++ s ∷ []) ≡ ends_of all ++ s.end ∷ []
ends_more [] s = refl
ends_more (t ∷ more) s = ap (λ l. t.end ∷ l) (ends_more more s)

conns_more : {C : Type 0} (all : List (ServedConn C)) (s : ServedConn C) → conns_of (all ++ s ∷ []) ≡ conns_of all ++ s.conn ∷ []
conns_more [] s = refl
conns_more (t ∷ more) s = ap (λ l. t.conn ∷ l) (conns_more more s)

gave_none : {C : Type 0} (a : Option (List C)) → GaveFirst a [] a
gave_none None = refl
gave_none (Some due) = (due, refl, refl)

notes_none : {C : Type 0} (tells : C → ConnTells) (a : Option (List Visit)) → NotesVisits tells a [] a
notes_none tells None = refl
notes_none tells (Some visits) = ([], refl, ap Some (sym (append-nil visits)))

-- ---- how far it came

pub none_so_far : {C : Type 0} (tells : C → ConnTells) (set : Settings) (m : BayState) (d : DoorState C) (counts : EndCounts)
    → SoFar tells set m d m d counts counts
none_so_far tells set m d counts = record {
  all = [];
  ran = refl;
  gave = gave_none d.left;
  noted = notes_none tells d.given;
  counted = refl;
  none = tt;
  closes = refl;
  faults = refl;
}

abbrev of_next : {C : Type 0} (tells : C → ConnTells) (set : Settings) (k n : BayState) (e f : DoorState C) (end : ConnEnd)
    (now after : EndCounts) → ServesNext tells set k e end n f now after → ServedConn C
of_next tells set k n e f end now after h = record { conn = h.conn; back = h.back; end = end; exchanges = h.exchanges }

module _ {C : Type 0} (tells : C → ConnTells) (set : Settings) (m k n : BayState) (d e f : DoorState C) (before now after : EndCounts)
    (end : ConnEnd) (far : SoFar tells set m d k e before now) (next : ServesNext tells set k e end n f now after) where
  one : ServedConn C
  one = record { conn = next.conn; back = next.back; end = end; exchanges = next.exchanges }

  ran_next : Ran tells set m (far.all ++ record { conn = next.conn; back = next.back; end = end; exchanges = next.exchanges } ∷ []) n
  ran_next = ran_more tells set m k n far.all (record { conn = next.conn; back = next.back; end = end; exchanges = next.exchanges }) far.ran next.serves

  gave_next : GaveFirst d.left (conns_of (far.all ++ record { conn = next.conn; back = next.back; end = end; exchanges = next.exchanges } ∷ [])) f.left
  gave_next = subst
      (λ l. GaveFirst d.left l f.left) (sym (conns_more far.all (record { conn = next.conn; back = next.back; end = end; exchanges = next.exchanges })))
      (gave_more d.left e.left f.left (conns_of far.all) next.conn far.gave next.gave)

  noted_next : NotesVisits tells d.given (far.all ++ record { conn = next.conn; back = next.back; end = end; exchanges = next.exchanges } ∷ []) f.given
  noted_next = notes_more tells d.given e.given f.given far.all (record { conn = next.conn; back = next.back; end = end; exchanges = next.exchanges } ∷ []) far.noted next.noted

  counted_next : after ≡ all_counted before (ends_of (far.all ++ record { conn = next.conn; back = next.back; end = end; exchanges = next.exchanges } ∷ []))
  counted_next = next.counted ∙ ap (λ c. counted c end) far.counted ∙ sym (counted_more before (ends_of far.all) end)
      ∙ ap (λ l. all_counted before l) (sym (ends_more far.all (record { conn = next.conn; back = next.back; end = end; exchanges = next.exchanges })))

  pub more_so_far : is_spent end ≡ false → SoFar tells set m d n f before after
  more_so_far other = record {
    all = far.all ++ record { conn = next.conn; back = next.back; end = end; exchanges = next.exchanges } ∷ [];
    ran = ran_next;
    gave = gave_next;
    noted = noted_next;
    counted = counted_next;
    none = subst (λ l. NoneSpent l) (sym (ends_more far.all (record { conn = next.conn; back = next.back; end = end; exchanges = next.exchanges })))
        (none_more (ends_of far.all) end far.none other);
    closes = next.closes ∙ far.closes;
    faults = next.faults ∙ far.faults;
  }

  pub spent_runs : end ≡ conn_end.NumbersSpent → Runs tells set m d bay_stop.NumbersSpent n f before after
  spent_runs is = record {
    all = far.all ++ record { conn = next.conn; back = next.back; end = end; exchanges = next.exchanges } ∷ [];
    ran = ran_next;
    gave = gave_next;
    noted = noted_next;
    counted = counted_next;
    stops = (
      next.faults ∙ far.faults,
      next.closes ∙ far.closes,
      ends_of far.all,
      far.none,
      ends_more far.all (record { conn = next.conn; back = next.back; end = end; exchanges = next.exchanges }) ∙ ap (λ x. ends_of far.all ++ x ∷ []) is,
    );
  }

pub spent_is : (end : ConnEnd) → is_spent end ≡ true → end ≡ conn_end.NumbersSpent
spent_is (conn_end.Stopped end) e = absurd (cc)
spent_is conn_end.ReadFault e = absurd (cc)
spent_is conn_end.WriteFault e = absurd (cc)
spent_is conn_end.BackendCut e = absurd (cc)
spent_is conn_end.StreamSpent e = absurd (cc)
spent_is conn_end.NumbersSpent e = refl
spent_is conn_end.NoMemory e = absurd (cc)

not_last : {T : Type 0} (xs : List T) (x : T) → [] ≡ xs ++ x ∷ [] → ⊥
not_last [] x e = cc
not_last (y ∷ ys) x e = cc

stops_later : {C : Type 0} (d e f : DoorState C) (ends : List ConnEnd) (stop : BayStop) → NoneSpent ends → e.closes ≡ d.closes
    → e.faults ≡ d.faults → StopsBy e f [] stop → StopsBy d f ends stop
stops_later d e f ends bay_stop.Closed none closes faults h =
    (subst (λ c. Rose c f.closes) closes h.0, h.1 ∙ faults, h.2, none)
stops_later d e f ends bay_stop.DoorFault none closes faults h =
    (subst (λ c. Rose c f.faults) faults h.0, h.1 ∙ closes, none)
stops_later d e f ends bay_stop.NumbersSpent none closes faults h = absurd (not_last h.2 conn_end.NumbersSpent h.4)

pub stop_runs : {C : Type 0} (tells : C → ConnTells) (set : Settings) (m n : BayState) (d e f : DoorState C) (before after : EndCounts)
    (stop : BayStop) → SoFar tells set m d n e before after → GivesNone e f stop → Runs tells set m d stop n f before after
stop_runs tells set m n d e f before after stop far last = record {
  all = far.all;
  ran = far.ran;
  gave = subst (λ o. GaveFirst d.left (conns_of far.all) o) (sym last.left) far.gave;
  noted = subst (λ o. NotesVisits tells d.given far.all o) (sym last.given) far.noted;
  counted = far.counted;
  stops = stops_later d e f (ends_of far.all) stop far.none far.closes far.faults last.stops;
}
