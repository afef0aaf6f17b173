-- A run goes on from request to request.
use Rattle.std.proofs.Common.{◌≡◌, ℕ, ◌+◌, ◌<◌, ◌≤◌, ◌⊎◌, true, false, List, [], ◌∷◌, ◌++◌, length, take, Option, Some, None, refl, sym, ap, ◌∙◌, subst, append_assoc, inl, inr, arith, ⊎_elim}
use Rattle.std.specs.Prelude.{IfSome}
use Rattle.std.specs.Io.KnownBytes.{Consumes, Appends, IsAtEnd}
use Rattle.std.proofs.KnownBytes.{Consumes-nil, Consumes-trans, Appends-nil, Appends-trans}
use Rattle.std.proofs.Math.Seq.{take-append-add}
use Rattle.std.proofs.lemmas.List.{take_all}
use Rattle.front_base.specs.declared.audit_id.TheConstants.{MOST_REQUESTS}
use Rattle.front_ports.specs.Cause.{Rose}
use Rattle.front_ports.specs.Written.{AppendsFront}
use Rattle.http_edge.specs.Calls.{GotRequest, NoRequest, Stopped, Awaits, KeepsCount}
use Rattle.http_edge.specs.Requests.{StartsWith, asks, IsRequests, IsStop, ReadsTo, IsUnfinished}
use Rattle.http_edge.specs.declared.request.End.{End}
use Rattle.http_edge.specs.declared.request.End.TheVariants as end
use Rattle.http_edge.specs.declared.request.Request.{Request}
use Rattle.http_edge.specs.declared.request.Stop.{Stop}
use Rattle.http_edge.specs.declared.request.Stop.TheVariants as stop
use Rattle.apiservice_rows.specs.Row.{Row}
use Rattle.explain_run.specs.Lines.{AreLines, IsLines, rows_after, rows_after_all}
use Rattle.command_ends.specs.Ports.{Port, State, HasFailed, IsSound}
use Rattle.explain_run.specs.Serving.{FirstOf, BeginsWith, ServedAll, ServedTaken, ServedMost, ServedFront, status_of, Serves, status_of_stop, Closes, Spilled, Served}
use Rattle.explain_run.specs.declared.setup.Setup.{Setup}
use Rattle.command_ends.specs.declared.status.Status.{Status}
use Rattle.command_ends.specs.declared.status.Status.TheVariants.{WriteFault}
use Rattle.explain_run.proofs.ListLemmas.{StartsStay, RefusalsStay, reads_more, reads_one, list_stop, list_asked, first_of, first_one, stop_whole, lines_one, rows_after_one, length_one}

-- what holds of all bytes that begin with those taken holds of the input
of_input : (a c : Option (List ℕ)) (taken : List ℕ) (P : List ℕ → Type 0) → Consumes a c taken → ((ys : List ℕ) → P (taken ++ ys))
    → IfSome a P
of_input None c taken P h f = tt
of_input (Some xs) None taken P h f = absurd h
of_input (Some xs) (Some ys) taken P h f = subst P (sym h) (f ys)

begins : (a c : Option (List ℕ)) (taken : List ℕ) → Consumes a c taken → BeginsWith a taken
begins None c taken h = tt
begins (Some xs) None taken h = absurd h
begins (Some xs) (Some ys) taken h = (ys, h)

-- the same where the end of the input counts
of_ended : (a c : Option (List ℕ)) (taken : List ℕ) (P : List ℕ → Type 0) → Consumes a c taken
    → ((ys : List ℕ) → (IsAtEnd c → ys ≡ []) → P (taken ++ ys)) → IfSome a P
of_ended None c taken P h f = tt
of_ended (Some xs) None taken P h f = absurd h
of_ended (Some xs) (Some ys) taken P h f = subst P (sym h) (f ys (λ e. e))

pub rose_earlier : (a b c : ℕ) → a ≤ b → Rose b c → Rose a c
rose_earlier a b c h r = omega (arith, h, r)

-- a front of what is written next is a front of all
front_more : (w0 w v : Option (List ℕ)) (sent next : List ℕ) → Appends w0 w sent → AppendsFront w v next
    → AppendsFront w0 v (sent ++ next)
front_more w0 w v sent next h k = (
  length sent + k.0,
  subst (Appends w0 v) (sym (take-append-add sent next k.0)) (Appends-trans w0 w v sent (take k.0 next) h k.1),
)

pub served_none : (set : Setup) (rows : List Row) (a w : Option (List ℕ)) (x p : List ℕ) (large : ℕ) → x ≡ [] → p ≡ [] → large ≡ 0
    → Served set rows rows a a x w w p 0 large
served_none set rows a w x p large e f none = record {
  requests = [];
  taken = [];
  consumed = Consumes-nil a;
  reads = sym e;
  count = refl;
  few = omega arith;
  sent = [];
  written = Appends-nil w;
  lines = (f, none);
  stands = refl;
}

-- a run that ended before its first request
pub none_served : (set : Setup) (rows : List Row) (input output : Port) (large : ℕ) → large ≡ 0 → input.after ≡ input.before
    → output.after ≡ output.before → ServedFront set rows input output large
none_served set rows input output large none i o = record {
  requests = [];
  few = omega arith;
  taken = [];
  begins = begins_none input.before.told;
  first = tt;
  text = [];
  lines = (refl, none);
  written = (0, subst (λ (p : State). Appends output.before.told p.told []) (sym o) (Appends-nil output.before.told));
}
  where
    begins_none : (told : Option (List ℕ)) → BeginsWith told []
    begins_none None = tt
    begins_none (Some bytes) = (bytes, refl)

-- all of a text is a front of it
pub whole_front : (w v : Option (List ℕ)) (p : List ℕ) → Appends w v p → AppendsFront w v p
whole_front w v p h = (length p, subst (Appends w v) (sym (take_all (length p) p (omega arith))) h)

-- a request stands next
pub record Standing (set : Setup) (rows rows_now : List Row) (a c : Option (List ℕ)) (y : List ℕ) (w0 w : Option (List ℕ)) (pending : List ℕ) (n large : ℕ) (r : Request) : Type 0 where
  pub requests : List Request
  pub taken : List ℕ
  pub middle : List ℕ
  pub consumed : Consumes a c taken
  pub reads : ReadsTo taken requests middle
  pub starts : StartsWith middle r y
  pub count : length requests ≡ n
  pub few : length requests ≤ MOST_REQUESTS
  pub sent : List ℕ
  pub written : Appends w0 w sent
  pub lines : AreLines set 0 rows requests (sent ++ pending) large
  pub stands : rows_now ≡ rows_after_all set rows requests

module _ (law : StartsStay) (refusals : RefusalsStay) (set : Setup) (rows rows_now : List Row) (a b c : Option (List ℕ)) (x : List ℕ)
    (w0 w : Option (List ℕ)) (p : List ℕ) (n large : ℕ) (s : Served set rows rows_now a b x w0 w p n large) where
  pub stand : (y : List ℕ) (r : Request) → GotRequest b c x y r → Standing set rows rows_now a c y w0 w p n large r
  stand y r g = record {
    requests = s.requests;
    taken = s.taken ++ g.seen.taken;
    middle = x ++ g.seen.taken;
    consumed = Consumes-trans a b c s.taken g.seen.taken s.consumed g.seen.consumed;
    reads = reads_more law s.taken g.seen.taken x s.requests s.reads;
    starts = subst (λ l. StartsWith l r y) g.seen.all g.starts;
    count = s.count;
    few = s.few;
    sent = s.sent;
    written = s.written;
    lines = s.lines;
    stands = s.stands;
  }

-- ---- the last lines

-- how a run ends with its last lines, where the sink told this before them: as it is to, where no write of the run failed,
-- and otherwise with a front of them
abbrev pub Closed : Port → Option (List ℕ) → List ℕ → Status → Status → Type 0
Closed output w p e k =
    ((k ≡ e) × Appends w output.after.told p × IsSound output)
    ⊎ ((k ≡ WriteFault) × HasFailed output × AppendsFront w output.after.told p)

-- of an equal text and to an equal status, where no write before them failed
pub closed_as : (output : Port) (w : Option (List ℕ)) (f : ℕ) (t p : List ℕ) (d e k : Status) → t ≡ p → d ≡ e → f ≡ output.before.faults
    → Closes (record { before = record { told = w; faults = f }; after = output.after }) t d k → Closed output w p e k
closed_as output w f t p d e k same ends sound done =
    ⊎_elim
    (λ (q : (k ≡ d) × Appends w output.after.told t × (output.after.faults ≡ f)).
    inl (q.0 ∙ ends, subst (Appends w output.after.told) same q.1, q.2 ∙ sound))
    (λ (q : (k ≡ WriteFault) × Rose f output.after.faults × AppendsFront w output.after.told t).
    inr (q.0, subst (λ n. Rose n output.after.faults) sound q.1, subst (AppendsFront w output.after.told) same q.2))
    done

pub closed : (set : Setup) (rows : List Row) (input output : Port) (large : ℕ) (w : Option (List ℕ)) (p : List ℕ) (e k : Status)
    → Closed output w p e k → (Appends w output.after.told p → IsSound output → Serves set rows input output large e)
    → (AppendsFront w output.after.told p → ServedFront set rows input output large) → Serves set rows input output large k
closed set rows input output large w p e k done all front =
    ⊎_elim
    (λ (q : (k ≡ e) × Appends w output.after.told p × IsSound output).
    subst (Serves set rows input output large) (sym q.0) (all q.1 q.2))
    (λ (q : (k ≡ WriteFault) × HasFailed output × AppendsFront w output.after.told p).
    subst (Serves set rows input output large) (sym q.0) (q.1, front q.2))
    done

-- ---- a run ends

module _ (law : StartsStay) (refusals : RefusalsStay) (set : Setup) (rows rows_now : List Row) (input output : Port) (b : Option (List ℕ))
    (x : List ℕ) (w : Option (List ℕ)) (p : List ℕ) (n large : ℕ)
    (s : Served set rows rows_now input.before.told b x output.before.told w p n large) where
  -- a front of what was to be written is written
  served_front : AppendsFront w output.after.told p → ServedFront set rows input output large
  served_front h = record {
    requests = s.requests;
    few = s.few;
    taken = s.taken;
    begins = begins input.before.told b s.taken s.consumed;
    first = first_of s.taken x s.requests s.reads;
    text = s.sent ++ p;
    lines = s.lines;
    written = front_more output.before.told w output.after.told s.sent p s.written h;
  }

  served_stop : (e : End) → Stopped b input.after.told x e → Appends w output.after.told p → ServedAll set rows input output large e
  served_stop e t h =
      let a = input.before.told in
      let c = input.after.told in
      let taken = s.taken ++ t.seen.taken in
      let consumed : Consumes a c taken = Consumes-trans a b c s.taken t.seen.taken s.consumed t.seen.consumed in
      let reads : ReadsTo taken s.requests (x ++ t.seen.taken) = reads_more law s.taken t.seen.taken x s.requests s.reads in
      let stop : IsStop (x ++ t.seen.taken) e = subst (λ l. IsStop l e) t.seen.all t.stop in
      record {
        requests = s.requests;
        few = s.few;
        taken = taken;
        consumed = consumed;
        list = list_stop taken (x ++ t.seen.taken) s.requests e reads stop;
        whole = of_ended a c taken (λ bytes. IsRequests bytes s.requests e) consumed (λ ys at_end.
            list_stop (taken ++ ys) ((x ++ t.seen.taken) ++ ys) s.requests e
            (reads_more law taken ys (x ++ t.seen.taken) s.requests reads)
            (stop_whole refusals (x ++ t.seen.taken) ys e (IsAtEnd c) stop t.at_end at_end));
        text = s.sent ++ p;
        lines = s.lines;
        written = Appends-trans output.before.told w output.after.told s.sent p s.written h;
      }

  served_fault : Awaits b input.after.told x → Appends w output.after.told p → ServedTaken set rows input output large
  served_fault t h = record {
    requests = s.requests;
    few = s.few;
    taken = s.taken ++ t.seen.taken;
    rest = x ++ t.seen.taken;
    consumed = Consumes-trans input.before.told b input.after.told s.taken t.seen.taken s.consumed t.seen.consumed;
    reads = reads_more law s.taken t.seen.taken x s.requests s.reads;
    awaits = subst IsUnfinished t.seen.all t.awaits;
    text = s.sent ++ p;
    lines = s.lines;
    written = Appends-trans output.before.told w output.after.told s.sent p s.written h;
  }

  by_end : (e : End) → Stopped b input.after.told x e → Appends w output.after.told p → IsSound input → IsSound output
      → Serves set rows input output large (status_of e)
  by_end end.Ended h e i q = (end.Ended, refl, served_stop end.Ended h e, i, q)
  by_end end.Asked h e i q = (end.Asked, refl, served_stop end.Asked h e, i, q)
  by_end end.BadHead h e i q = (end.BadHead, refl, served_stop end.BadHead h e, i, q)
  by_end end.HeadTooLarge h e i q = (end.HeadTooLarge, refl, served_stop end.HeadTooLarge h e, i, q)
  by_end end.BadFraming h e i q = (end.BadFraming, refl, served_stop end.BadFraming h e, i, q)
  by_end end.BodyTooLarge h e i q = (end.BodyTooLarge, refl, served_stop end.BodyTooLarge h e, i, q)
  by_end end.CutShort h e i q = (end.CutShort, refl, served_stop end.CutShort h e, i, q)

  by_stop : (Read0 : Type 0) (t : Stop) → (Read0 → HasFailed input) → KeepsCount input.before.faults input.after.faults t
      → NoRequest b input.after.told x Read0 t → Appends w output.after.told p → IsSound output
      → Serves set rows input output large (status_of_stop t)
  by_stop Read0 (stop.Refused e) f i h a q = by_end e h a i q
  by_stop Read0 stop.ReadFault f i h a q = (f h.1, served_fault h.0 a)
  by_stop Read0 stop.NoMemory f i h a q = served_front (whole_front w output.after.told p a)

  -- what is known where the lines before a stop are written, by what the stop is
  pub stop_serves : (Read0 : Type 0) (t : Stop) (k : Status) → (Read0 → HasFailed input) → KeepsCount input.before.faults input.after.faults t
      → NoRequest b input.after.told x Read0 t → Closed output w p (status_of_stop t) k → Serves set rows input output large k
  stop_serves Read0 t k f i h done =
      closed set rows input output large w p (status_of_stop t) k done (by_stop Read0 t f i h) served_front

-- ---- a request stands next

module _ (law : StartsStay) (set : Setup) (rows rows_now : List Row) (input output : Port) (y : List ℕ) (w : Option (List ℕ)) (p : List ℕ) (n large : ℕ)
    (r : Request) (s : Standing set rows rows_now input.before.told input.after.told y output.before.told w p n large r) where
  -- the requests before it are the last
  pub up_to : length s.requests ≡ MOST_REQUESTS → Appends w output.after.told p → ServedMost set rows input output large
  up_to all h = record {
    requests = s.requests;
    next = r;
    taken = s.taken;
    consumed = s.consumed;
    first = first_one s.taken s.middle y s.requests r s.reads s.starts;
    whole = of_input input.before.told input.after.told s.taken (λ bytes. FirstOf bytes (s.requests ++ r ∷ [])) s.consumed (λ ys.
        first_one (s.taken ++ ys) (s.middle ++ ys) (y ++ ys) s.requests r
        (reads_more law s.taken ys s.middle s.requests s.reads) (law s.middle ys y r s.starts));
    all = all;
    text = s.sent ++ p;
    lines = s.lines;
    written = Appends-trans output.before.told w output.after.told s.sent p s.written h;
  }

  -- a front of their lines is written
  pub stand_front : AppendsFront w output.after.told p → ServedFront set rows input output large
  stand_front h = record {
    requests = s.requests;
    few = s.few;
    taken = s.taken;
    begins = begins input.before.told input.after.told s.taken s.consumed;
    first = first_of s.taken s.middle s.requests s.reads;
    text = s.sent ++ p;
    lines = s.lines;
    written = front_more output.before.told w output.after.told s.sent p s.written h;
  }

module _ (set : Setup) (rows rows_now : List Row) (a c : Option (List ℕ)) (y : List ℕ) (w0 w : Option (List ℕ)) (p : List ℕ) (n large : ℕ)
    (r : Request) (s : Standing set rows rows_now a c y w0 w p n large r) (room : n < MOST_REQUESTS) (own : List ℕ) (few : ℕ)
    (is : IsLines set rows_now n r own few) where
  all_lines : AreLines set 0 rows (s.requests ++ r ∷ []) (s.sent ++ (p ++ own)) (large + few)
  all_lines =
      subst (λ text. AreLines set 0 rows (s.requests ++ r ∷ []) text (large + few)) (append_assoc s.sent p own)
      (lines_one set 0 n rows s.requests r (s.sent ++ p) own large few (omega (arith, s.count)) s.lines
      (subst (λ now. IsLines set now n r own few) s.stands is))

  all_few : length (s.requests ++ r ∷ []) ≤ MOST_REQUESTS
  all_few = let one = length_one s.requests r in omega (arith, one, s.count, room)

  -- its lines are added, and it isn't the last
  pub stand_more : (next : List Row) → next ≡ rows_after set rows_now r → asks r ≡ false
      → Served set rows next a c y w0 w (p ++ own) (n + 1) (large + few)
  stand_more next changed e = record {
    requests = s.requests ++ r ∷ [];
    taken = s.taken;
    consumed = s.consumed;
    reads = reads_one s.taken s.middle y s.requests r s.reads s.starts e;
    count = let one = length_one s.requests r in omega (arith, one, s.count);
    few = all_few;
    sent = s.sent;
    written = s.written;
    lines = all_lines;
    stands =
        changed ∙ ap (λ now. rows_after set now r) s.stands ∙ sym (rows_after_one set rows s.requests r);
  }

module _ (law : StartsStay) (set : Setup) (rows rows_now : List Row) (input output : Port) (y : List ℕ) (w : Option (List ℕ)) (p : List ℕ) (n large : ℕ)
    (r : Request) (s : Standing set rows rows_now input.before.told input.after.told y output.before.told w p n large r) (room : n < MOST_REQUESTS)
    (own : List ℕ) (few : ℕ) (is : IsLines set rows_now n r own few) where
  -- its lines are added, and it is the last
  pub stand_asked : asks r ≡ true → Appends w output.after.told (p ++ own) → ServedAll set rows input output (large + few) end.Asked
  stand_asked e h = record {
    requests = s.requests ++ r ∷ [];
    few = all_few set rows rows_now _ _ y _ w p n large r s room own few is;
    taken = s.taken;
    consumed = s.consumed;
    list = list_asked s.taken s.middle y s.requests r s.reads s.starts e;
    whole = of_input input.before.told input.after.told s.taken (λ bytes. IsRequests bytes (s.requests ++ r ∷ []) end.Asked) s.consumed (λ ys.
        list_asked (s.taken ++ ys) (s.middle ++ ys) (y ++ ys) s.requests r
        (reads_more law s.taken ys s.middle s.requests s.reads) (law s.middle ys y r s.starts) e);
    text = s.sent ++ (p ++ own);
    lines = all_lines set rows rows_now _ _ y _ w p n large r s room own few is;
    written = Appends-trans output.before.told w output.after.told s.sent (p ++ own) s.written h;
  }

  pub last_front : AppendsFront w output.after.told (p ++ own) → ServedFront set rows input output (large + few)
  last_front h = record {
    requests = s.requests ++ r ∷ [];
    few = all_few set rows rows_now _ _ y _ w p n large r s room own few is;
    taken = s.taken;
    begins = begins input.before.told input.after.told s.taken s.consumed;
    first = first_one s.taken s.middle y s.requests r s.reads s.starts;
    text = s.sent ++ (p ++ own);
    lines = all_lines set rows rows_now _ _ y _ w p n large r s room own few is;
    written = front_more output.before.told w output.after.told s.sent (p ++ own) s.written h;
  }

-- a part of the lines was written
pub served_spilled : (set : Setup) (rows rows_now : List Row) (a b : Option (List ℕ)) (x : List ℕ) (w0 w v : Option (List ℕ)) (p q : List ℕ) (n large : ℕ)
    → Served set rows rows_now a b x w0 w p n large → Spilled w v p q → Served set rows rows_now a b x w0 v q n large
served_spilled set rows rows_now a b x w0 w v p q n large s h = record {
  requests = s.requests;
  taken = s.taken;
  consumed = s.consumed;
  reads = s.reads;
  count = s.count;
  few = s.few;
  sent = s.sent ++ h.front;
  written = Appends-trans w0 w v s.sent h.front s.written h.written;
  lines = subst (λ text. AreLines set 0 rows s.requests text large) (ap (λ l. s.sent ++ l) h.split ∙ sym (append_assoc s.sent h.front q)) s.lines;
  stands = s.stands;
}
