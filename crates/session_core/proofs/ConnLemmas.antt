-- A connection goes on from request to request.
use Rattle.std.proofs.Common.{◌≡◌, ℕ, ◌+◌, ◌≤◌, ◌<◌, ◌⊎◌, ◌||◌, Bool, true, false, List, [], ◌∷◌, ◌++◌, take, Option, Some, None, refl, sym, ap, ◌∙◌, subst, append_assoc, append-nil, inl, inr, arith}
use Rattle.std.specs.Prelude.{IfSome}
use Rattle.std.specs.Io.KnownBytes.{Consumes, Appends, IsAtEnd}
use Rattle.std.proofs.KnownBytes.{Consumes-nil, Consumes-trans, Appends-nil, Appends-trans}
use Rattle.audit_core.specs.Offers.{Due}
use Rattle.audit_core.specs.declared.settings.Settings.{Settings}
use Rattle.audit_core.specs.declared.stamp.Stamp.{Stamp}
use Rattle.exchange_replies.specs.Own.{refusal_text}
use Rattle.exchange_replies.specs.Streams.{WritesTo}
use Rattle.front_base.specs.declared.audit_id.TheConstants.{MOST_REQUESTS}
use Rattle.front_ports.specs.Cause.{Rose}
use Rattle.front_ports.specs.Side.{Side}
use Rattle.front_ports.specs.Wishes.{GaveWishes, GivesWish}
use Rattle.front_ports.specs.Written.{AppendsFront}
use Rattle.http_edge.specs.Calls.{GotRequest, NoRequest, Stopped, Awaits}
use Rattle.http_edge.specs.Requests.{StartsWith, asks, IsStop, ReadsTo, IsUnfinished}
use Rattle.http_edge.specs.declared.request.End.{End}
use Rattle.http_edge.specs.declared.request.End.TheVariants as end
use Rattle.http_edge.specs.declared.request.Request.{Request}
use Rattle.http_edge.specs.declared.request.Stop.{Stop}
use Rattle.http_edge.specs.declared.request.Stop.TheVariants as stop
use Rattle.session_core.specs.Bays.{BayState}
use Rattle.session_core.specs.Closing.{MayWish, NoneWished, closes, wishes_of}
use Rattle.session_core.specs.Connection.{AreServed, ConnState, MayWishAt, Ran, FirstOf, refusal_of, WritesRefusal, ServedAll, ServedTaken, ServedCut, ServedBroken, ServedMost, ServedFirst, HaltsAt, Serves}
use Rattle.session_core.specs.Ends.{Refuses, RefusesAt, ServesNext, ServesOne, SoFar, end_after, end_of_stop}
use Rattle.session_core.specs.Exchange.{Exchanged, ExchangedTo, Halted, ReplyStopped, StoppedAt, StopsAtEnd, StopsBeforeEnd, Unbegun, WasRead}
use Rattle.session_core.specs.Parts.{Outcomes}
use Rattle.session_core.specs.declared.conn_end.ConnEnd.{ConnEnd}
use Rattle.session_core.specs.declared.exchange.Exchange.{Exchange}
use Rattle.session_core.specs.declared.session.Outcome.{Outcome}
use Rattle.session_core.specs.declared.session.Outcome.TheVariants as outcome
use Rattle.stream_relay.specs.declared.stream.Relayed.{Relayed}
use Rattle.stream_relay.specs.declared.stream.Relayed.TheVariants as relayed
use Rattle.session_core.proofs.ListLemmas.{StartsStay, RefusalsStay, reads_more, reads_one, list_stop, list_asked, first_of, first_one, stop_whole}

-- what holds of all bytes that begin with those taken holds of the input
of_input : (a c : Option (List ℕ)) (taken : List ℕ) (P : List ℕ → Type 0) → Consumes a c taken → ((ys : List ℕ) → P (taken ++ ys))
    → IfSome a P
of_input None c taken P h f = tt
of_input (Some xs) None taken P h f = absurd h
of_input (Some xs) (Some ys) taken P h f = subst P (sym h) (f ys)

-- the same where the end of the input counts
of_ended : (a c : Option (List ℕ)) (taken : List ℕ) (P : List ℕ → Type 0) → Consumes a c taken
    → ((ys : List ℕ) → (IsAtEnd c → ys ≡ []) → P (taken ++ ys)) → IfSome a P
of_ended None c taken P h f = tt
of_ended (Some xs) None taken P h f = absurd h
of_ended (Some xs) (Some ys) taken P h f = subst P (sym h) (f ys (λ e. e))

rose_earlier : (a b c : ℕ) → a ≤ b → Rose b c → Rose a c
rose_earlier a b c h r = omega (arith, h, r)

-- a write that failed later failed

writes_later : (w0 w : Option (List ℕ)) (text : List ℕ) (rose later : Type 0) (end : Relayed) → (rose → later)
    → WritesTo w0 w text rose end → WritesTo w0 w text later end
writes_later w0 w text rose later relayed.Done go h = h
writes_later w0 w text rose later relayed.BackendCut go h = h
writes_later w0 w text rose later relayed.StreamSpent go h = h
writes_later w0 w text rose later relayed.WriteFault go h = (h.0, go h.1)

module _ (set : Settings) (peer : List ℕ) (r : Request) (m n : BayState) (w0 w : Option (List ℕ)) (rose later : Type 0) (x : Exchange) (go : rose → later) where
  reply_later : (stamp : Stamp) (due : List Due) → ReplyStopped set r m n w0 w rose stamp due x → ReplyStopped set r m n w0 w later stamp due x
  reply_later stamp due h = record {
    routed = h.routed;
    came = h.came;
    sent = h.sent;
    link_is = h.link_is;
    status_is = h.status_is;
    where_is = by h.where_is;
  }
    where
      by : StopsBeforeEnd set r m n w0 w stamp due h.came x ⊎ StopsAtEnd set r m n w0 w rose stamp due h.came x
          → StopsBeforeEnd set r m n w0 w stamp due h.came x ⊎ StopsAtEnd set r m n w0 w later stamp due h.came x
      by (inl q) = inl q
      by (inr q) =
          inr (record {
            end = q.end;
            text = q.text;
            text_is = q.text_is;
            written = writes_later w0 w q.text rose later q.end go q.written;
            answered = q.answered;
            timed = q.timed;
            due_is = q.due_is;
          })

  stopped_later : (stamp : Stamp) (due : List Due) → StoppedAt set r m n w0 w rose stamp due x → StoppedAt set r m n w0 w later stamp due x
  stopped_later stamp due (inl q) = inl q
  stopped_later stamp due (inr (inl q)) = inr (inl q)
  stopped_later stamp due (inr (inr q)) = inr (inr (reply_later stamp due q))

  halted_later : Halted set peer r m n w0 w rose x → Halted set peer r m n w0 w later x
  halted_later h = record {
    request_is = h.request_is;
    read = h.read;
    begun = h.begun;
    in_range = h.in_range;
    due = h.due;
    rest = h.rest;
    due_is = h.due_is;
    offered = h.offered;
    stopped = stopped_later h.begun.stamp h.due h.stopped;
    noted = h.noted;
    number_is = h.number_is;
    boot_is = h.boot_is;
    opening_is = h.opening_is;
  }

ran_one : (set : Settings) (peer : List ℕ) (m k n : BayState) (rs : List Request) (r : Request) (out text : List ℕ) (xs : List Exchange) (x : Exchange)
    → Ran set peer m rs out k xs → Exchanged set peer r k text n x → Ran set peer m (rs ++ r ∷ []) (out ++ text) n (xs ++ x ∷ [])
ran_one set peer m k n [] r out text xs x h e = (
  text,
  [],
  n,
  x,
  [],
  subst (λ (s : BayState). Exchanged set peer r s text n x) h.1 e,
  ap (λ l. l ++ text) h.0 ∙ sym (append-nil text),
  ap (λ l. l ++ x ∷ []) h.2,
  (refl, refl, refl),
)
ran_one set peer m k n (q ∷ rs) r out text xs x h e = (
  h.0,
  h.1 ++ text,
  h.2,
  h.3,
  h.4 ++ x ∷ [],
  h.5,
  ap (λ l. l ++ text) h.6 ∙ append_assoc h.0 h.1 text,
  ap (λ l. l ++ x ∷ []) h.7,
  ran_one set peer h.2 k n rs r h.1 text h.4 x h.8 e,
)

pub none_so_far : (set : Settings) (peer : List ℕ) (m : BayState) (a w : Option (List ℕ)) (v : Option (List Bool)) (x : List ℕ) → x ≡ []
    → SoFar set peer m m a a x w w v v
none_so_far set peer m a w v x e = record {
  requests = [];
  taken = [];
  consumed = Consumes-nil a;
  reads = sym e;
  out = [];
  exchanges = [];
  ran = (refl, refl, refl);
  written = Appends-nil w;
  none = tt;
  gave = refl;
}

-- ---- what was wished

-- it wished to go on after all of these, and after one more
none_more : (xs : List Exchange) (x : Exchange) → NoneWished xs → x.wished ≡ false → NoneWished (xs ++ x ∷ [])
none_more [] x h e = (e, tt)
none_more (y ∷ ys) x h e = (h.0, none_more ys x h.1 e)

-- one more wish came after these
gave_more : (xs : List Exchange) (x : Exchange) (v0 v1 v2 : Option (List Bool)) → GaveWishes v0 (wishes_of xs) v1 → GivesWish v1 v2 x.wished
    → GaveWishes v0 (wishes_of (xs ++ x ∷ [])) v2
gave_more [] x v0 v1 v2 h g = (v2, subst (λ (o : Option (List Bool)). GivesWish o v2 x.wished) h g, refl)
gave_more (y ∷ ys) x v0 v1 v2 h g = (h.0, h.1, gave_more ys x h.0 v1 v2 h.2 g)

-- a connection goes on after a request that doesn't ask to close, and only where it wished so
goes_both : (wished asked : Bool) → (wished || asked) ≡ false → (wished ≡ false) × (asked ≡ false)
goes_both true asked e = absurd (cc e)
goes_both false asked e = (refl, e)

-- nothing was done
still : (m : BayState) (w : Option (List ℕ)) → Unbegun m m w w
still m w = record { clock = inl (refl, refl); same = refl; written = refl }

-- memory ran out before the first read
pub never_begun : (set : Settings) (peer : List ℕ) (m : BayState) (c : ConnState) → (xs : List Exchange) × ServedFirst set peer m m c c xs
never_begun set peer m c = (
  [],
  record {
    requests = [];
    first = some_input c.left;
    out = [];
    middle = m;
    before = [];
    ran = (refl, refl, refl);
    so_far = c.written;
    written = Appends-nil c.written;
    last = [];
    halts = inl (refl, still m c.written);
    exchanges_are = refl;
    none = tt;
    wishes = c.wishes;
    gave = refl;
    may_wish = refl;
  },
)
  where
    some_input : (o : Option (List ℕ)) → IfSome o (λ input. FirstOf input [])
    some_input None = tt
    some_input (Some xs) = tt

-- ---- from what was so far, over one call

module _ (law : StartsStay) (refusals : RefusalsStay) (set : Settings) (peer : List ℕ) (m k n : BayState) (a b c : ConnState) (x y : List ℕ)
    (s : SoFar set peer m k a.left b.left x a.written b.written a.wishes b.wishes) where
  -- ---- no request came

  module _ (refused : n ≡ k) (quiet : c.wishes ≡ b.wishes) where
    gave_now : GaveWishes a.wishes (wishes_of s.exchanges) c.wishes
    gave_now = subst (GaveWishes a.wishes (wishes_of s.exchanges)) (sym quiet) s.gave

    now : Ran set peer m s.requests s.out n s.exchanges
    now = subst (λ (q : BayState). Ran set peer m s.requests s.out q s.exchanges) (sym refused) s.ran

    written_by : (code : Option ℕ) → a.write_faults ≤ b.write_faults → Refuses code b.written c.written (Rose b.write_faults c.write_faults)
        → WritesRefusal a c s.out code
    written_by None le h = subst (λ o. Appends a.written o s.out) (sym h) s.written
    written_by (Some code) le (inl h) = inl (Appends-trans a.written b.written c.written s.out (refusal_text code) s.written h)
    written_by (Some code) le (inr h) =
        inr (
          h.0.0,
          Appends-trans a.written b.written c.written s.out (take h.0.0 (refusal_text code)) s.written h.0.1,
          rose_earlier a.write_faults b.write_faults c.write_faults le h.1,
        )

    stopped_all : (e : End) → a.write_faults ≤ b.write_faults → Stopped b.left c.left x e
        → Refuses (refusal_of e) b.written c.written (Rose b.write_faults c.write_faults) → ServedAll set peer m n a c e s.exchanges
    stopped_all e le t writes =
        let taken = s.taken ++ t.seen.taken in
        let consumed : Consumes a.left c.left taken = Consumes-trans a.left b.left c.left s.taken t.seen.taken s.consumed t.seen.consumed in
        let reads : ReadsTo taken s.requests (x ++ t.seen.taken) = reads_more law s.taken t.seen.taken x s.requests s.reads in
        let stop : IsStop (x ++ t.seen.taken) e = subst (λ l. IsStop l e) t.seen.all t.stop in
        record {
          requests = s.requests;
          taken = taken;
          consumed = consumed;
          list = inl (s.none, list_stop taken (x ++ t.seen.taken) s.requests e reads stop);
          whole = of_ended a.left c.left taken (λ input. AreServed input s.requests e s.exchanges) consumed (λ ys at_end.
              inl (
                s.none,
                list_stop (taken ++ ys) ((x ++ t.seen.taken) ++ ys) s.requests e (reads_more law taken ys (x ++ t.seen.taken) s.requests reads)
                    (stop_whole refusals (x ++ t.seen.taken) ys e (IsAtEnd c.left) stop t.at_end at_end),
              ));
          out = s.out;
          ran = now;
          written = written_by (refusal_of e) le writes;
          gave = gave_now;
        }

    fault_taken : Awaits b.left c.left x → c.written ≡ b.written → ServedTaken set peer m n a c s.exchanges
    fault_taken t same = record {
      requests = s.requests;
      taken = s.taken ++ t.seen.taken;
      rest = x ++ t.seen.taken;
      consumed = Consumes-trans a.left b.left c.left s.taken t.seen.taken s.consumed t.seen.consumed;
      reads = reads_more law s.taken t.seen.taken x s.requests s.reads;
      awaits = subst IsUnfinished t.seen.all t.awaits;
      out = s.out;
      ran = now;
      written = subst (λ o. Appends a.written o s.out) (sym same) s.written;
      none = s.none;
      gave = gave_now;
    }

    -- memory ran out while the next request was read
    memory_first : c.written ≡ b.written → ServedFirst set peer m n a c (s.exchanges ++ [])
    memory_first same = record {
      requests = s.requests;
      first = of_input a.left b.left s.taken (λ input. FirstOf input s.requests) s.consumed (λ ys.
          first_of (s.taken ++ ys) (x ++ ys) s.requests (reads_more law s.taken ys x s.requests s.reads));
      out = s.out;
      middle = n;
      before = s.exchanges;
      ran = now;
      so_far = c.written;
      written = subst (λ o. Appends a.written o s.out) (sym same) s.written;
      last = [];
      halts = inl (refl, still n c.written);
      exchanges_are = refl;
      none = s.none;
      wishes = c.wishes;
      gave = gave_now;
      may_wish = refl;
    }

    by_stop : (t : Stop) → a.read_faults ≤ b.read_faults → a.write_faults ≤ b.write_faults → NoRequest b.left c.left x (Rose b.read_faults c.read_faults) t
        → RefusesAt t b.written c.written (Rose b.write_faults c.write_faults)
        → (xs : List Exchange) × Serves set peer m n a c (end_of_stop t) xs
    by_stop (stop.Refused e) lr lw h writes = (s.exchanges, stopped_all e lw h writes)
    by_stop stop.ReadFault lr lw h writes =
        (s.exchanges, (fault_taken h.0 writes, rose_earlier a.read_faults b.read_faults c.read_faults lr h.1))
    by_stop stop.NoMemory lr lw h writes = (s.exchanges ++ [], memory_first writes)

  -- ---- a request stood next

  module _ (r : Request) (g : GotRequest b.left c.left x y r) where
    abbrev middle : List ℕ
    middle = x ++ g.seen.taken

    abbrev taken_now : List ℕ
    taken_now = s.taken ++ g.seen.taken

    consumed_now : Consumes a.left c.left taken_now
    consumed_now = Consumes-trans a.left b.left c.left s.taken g.seen.taken s.consumed g.seen.consumed

    reads_now : ReadsTo taken_now s.requests middle
    reads_now = reads_more law s.taken g.seen.taken x s.requests s.reads

    starts_now : StartsWith middle r y
    starts_now = subst (λ l. StartsWith l r y) g.seen.all g.starts

    first_with : IfSome a.left (λ input. FirstOf input (s.requests ++ r ∷ []))
    first_with = of_input a.left c.left taken_now (λ input. FirstOf input (s.requests ++ r ∷ [])) consumed_now (λ ys.
        first_one (taken_now ++ ys) (middle ++ ys) (y ++ ys) s.requests r (reads_more law taken_now ys middle s.requests reads_now)
        (law middle ys y r starts_now))

    first_only : IfSome a.left (λ input. FirstOf input s.requests)
    first_only = of_input a.left c.left taken_now (λ input. FirstOf input s.requests) consumed_now (λ ys.
        first_of (taken_now ++ ys) (middle ++ ys) s.requests (reads_more law taken_now ys middle s.requests reads_now))

    writes_more : (text : List ℕ) → Appends b.written c.written text → Appends a.written c.written (s.out ++ text)
    writes_more text h = Appends-trans a.written b.written c.written s.out text s.written h

    gave_with : (e : Exchange) → GivesWish b.wishes c.wishes e.wished → GaveWishes a.wishes (wishes_of (s.exchanges ++ e ∷ [])) c.wishes
    gave_with e g = gave_more s.exchanges e a.wishes b.wishes c.wishes s.gave g

    more_so_far : (text : List ℕ) (e : Exchange) → closes r e.wished ≡ false → Exchanged set peer r k text n e → Appends b.written c.written text
        → GivesWish b.wishes c.wishes e.wished → SoFar set peer m n a.left c.left y a.written c.written a.wishes c.wishes
    more_so_far text e goes h w g = record {
      requests = s.requests ++ r ∷ [];
      taken = taken_now;
      consumed = consumed_now;
      reads = reads_one taken_now middle y s.requests r reads_now starts_now (goes_both e.wished (asks r) goes).1;
      out = s.out ++ text;
      exchanges = s.exchanges ++ e ∷ [];
      ran = ran_one set peer m k n s.requests r s.out text s.exchanges e s.ran h;
      written = writes_more text w;
      none = none_more s.exchanges e s.none (goes_both e.wished (asks r) goes).0;
      gave = gave_with e g;
    }

    -- it was the last of its connection: it asks so, or the connection wished it
    last_by : (e : Exchange) (bytes held after : List ℕ) → ReadsTo bytes s.requests held → StartsWith held r after → (wished : Bool) → e.wished ≡ wished
        → closes r wished ≡ true → AreServed bytes (s.requests ++ r ∷ []) end.Asked (s.exchanges ++ e ∷ [])
    last_by e bytes held after reads starts true is ends =
        inr (record {
          first = first_one bytes held after s.requests r reads starts;
          end_is = refl;
          last = record { before = s.exchanges; last = e; exchanges_are = refl; none = s.none; wished = is };
        })
    last_by e bytes held after reads starts false is ends =
        inl (none_more s.exchanges e s.none is, list_asked bytes held after s.requests r reads starts ends)

    asked_all : (text : List ℕ) (e : Exchange) → closes r e.wished ≡ true → Exchanged set peer r k text n e → Appends b.written c.written text
        → GivesWish b.wishes c.wishes e.wished → ServedAll set peer m n a c end.Asked (s.exchanges ++ e ∷ [])
    asked_all text e ends h w g = record {
      requests = s.requests ++ r ∷ [];
      taken = taken_now;
      consumed = consumed_now;
      list = last_by e taken_now middle y reads_now starts_now e.wished refl ends;
      whole = of_input a.left c.left taken_now (λ input. AreServed input (s.requests ++ r ∷ []) end.Asked (s.exchanges ++ e ∷ [])) consumed_now (λ ys.
          last_by e (taken_now ++ ys) (middle ++ ys) (y ++ ys) (reads_more law taken_now ys middle s.requests reads_now)
          (law middle ys y r starts_now) e.wished refl ends);
      out = s.out ++ text;
      ran = ran_one set peer m k n s.requests r s.out text s.exchanges e s.ran h;
      written = writes_more text w;
      gave = gave_with e g;
    }

    cut_last : (text : List ℕ) (e : Exchange) → ExchangedTo set peer r k text n relayed.WriteFault e → AppendsFront b.written c.written text
        → GivesWish b.wishes c.wishes e.wished → ServedCut set peer m n a c (s.exchanges ++ e ∷ [])
    cut_last text e h w g = record {
      requests = s.requests;
      last = r;
      first = first_with;
      out = s.out;
      middle = k;
      before = s.exchanges;
      ran = s.ran;
      text = text;
      x = e;
      cut = h;
      exchanges_are = refl;
      count = w.0;
      written = writes_more (take w.0 text) w.1;
      none = s.none;
      gave = gave_with e g;
    }

    broken_last : (end : Relayed) (text : List ℕ) (e : Exchange) → ExchangedTo set peer r k text n end e → Appends b.written c.written text
        → GivesWish b.wishes c.wishes e.wished → ServedBroken set peer m n a c end (s.exchanges ++ e ∷ [])
    broken_last end text e h w g = record {
      requests = s.requests;
      last = r;
      first = first_with;
      out = s.out;
      middle = k;
      before = s.exchanges;
      ran = s.ran;
      text = text;
      x = e;
      broken = h;
      exchanges_are = refl;
      written = writes_more text w;
      none = s.none;
      gave = gave_with e g;
    }

    most : k.number ≡ MOST_REQUESTS → n ≡ k → c.written ≡ b.written → c.wishes ≡ b.wishes → ServedMost set peer m n a c s.exchanges
    most all same w quiet =
        subst (λ (q : BayState). ServedMost set peer m q a c s.exchanges) (sym same)
        (record {
          requests = s.requests;
          next = r;
          first = first_with;
          out = s.out;
          ran = s.ran;
          written = subst (λ o. Appends a.written o s.out) (sym w) s.written;
          all = all;
          none = s.none;
          gave = subst (GaveWishes a.wishes (wishes_of s.exchanges)) (sym quiet) s.gave;
        })

    abbrev pub Halting : Type 0
    Halting =
        (Unbegun k n b.written c.written × (c.wishes ≡ b.wishes))
        ⊎ ((e : Exchange) × Halted set peer r k n b.written c.written (Rose b.write_faults c.write_faults) e
        × MayWish b.wishes c.wishes false e.wished)

    halts_next : a.write_faults ≤ b.write_faults → Halting → (xs : List Exchange) × ServedFirst set peer m n a c xs
    halts_next le h =
        let halts = by h in (
          s.exchanges ++ halts.0,
          record {
            requests = s.requests;
            first = first_only;
            out = s.out;
            middle = k;
            before = s.exchanges;
            ran = s.ran;
            so_far = b.written;
            written = s.written;
            last = halts.0;
            halts = halts.1;
            exchanges_are = refl;
            none = s.none;
            wishes = b.wishes;
            gave = s.gave;
            may_wish = halts.2;
          },
        )
      where
        by : Halting
            → (xs : List Exchange) × HaltsAt set peer a.left s.requests k n b.written c.written (Rose a.write_faults c.write_faults) xs
            × MayWishAt b.wishes c.wishes xs
        by (inl q) = ([], inl (refl, q.0), q.1)
        by (inr q) = (
          q.0 ∷ [],
          inr (
            r,
            q.0,
            refl,
            first_with,
            halted_later set peer r k n b.written c.written (Rose b.write_faults c.write_faults)
                (Rose a.write_faults c.write_faults) q.0 (rose_earlier a.write_faults b.write_faults c.write_faults le) q.1,
          ),
          q.2,
        )

  -- ---- how it goes on

  -- it goes on, or it ended so
  abbrev pub Goes : Option ConnEnd → Type 0
  Goes None = SoFar set peer m n a.left c.left y a.written c.written a.wishes c.wishes
  Goes (Some end) = (xs : List Exchange) × Serves set peer m n a c end xs

  by_outcome : (r : Request) (g : GotRequest b.left c.left x y r) (o : Outcome) → a.write_faults ≤ b.write_faults
      → Outcomes set peer r k n b.written c.written (Rose b.write_faults c.write_faults) b.wishes c.wishes o → Goes (end_after o)
  by_outcome r g outcome.Last le h = (s.exchanges ++ h.1 ∷ [], asked_all r g h.0 h.1 h.5 h.2 h.3 h.4)
  by_outcome r g outcome.Whole le h = more_so_far r g h.0 h.1 h.5 h.2 h.3 h.4
  by_outcome r g outcome.Cut le h =
      (s.exchanges ++ h.1 ∷ [], (cut_last r g h.0 h.1 h.2 h.3 h.5, rose_earlier a.write_faults b.write_faults c.write_faults le h.4))
  by_outcome r g outcome.BackendCut le h = (s.exchanges ++ h.1 ∷ [], broken_last r g relayed.BackendCut h.0 h.1 h.2 h.3 h.4)
  by_outcome r g outcome.StreamSpent le h = (s.exchanges ++ h.1 ∷ [], broken_last r g relayed.StreamSpent h.0 h.1 h.2 h.3 h.4)
  by_outcome r g outcome.NoMemory le h = halts_next r g le h

  by_one : (r : Request) (g : GotRequest b.left c.left x y r) (own : Option ConnEnd) → a.write_faults ≤ b.write_faults
      → ServesOne set peer r k n b.written c.written (Rose b.write_faults c.write_faults) b.wishes c.wishes own → Goes own
  by_one r g own le (inl h) = subst Goes (sym h.end_is) (by_outcome r g h.outcome le h.served)
  by_one r g own le (inr h) = subst Goes (sym h.end_is) (s.exchanges, most r g h.all h.same h.written h.wishes)

  goes_on : (own : Option ConnEnd) → a.read_faults ≤ b.read_faults → a.write_faults ≤ b.write_faults → ServesNext set peer k n x y b c own → Goes own
  goes_on own lr lw (inl h) = by_one h.request h.got own lw h.serves
  goes_on own lr lw (inr h) = subst Goes (sym h.end_is) (by_stop h.same h.wishes h.stop lr lw h.none h.refuses)

  pub goes : (own : Option ConnEnd) (from : List ℕ) → from ≡ peer → a.read_faults ≤ b.read_faults → a.write_faults ≤ b.write_faults
      → ServesNext set from k n x y b c own → Goes own
  goes own from e lr lw h = goes_on own lr lw (subst (λ (p : List ℕ). ServesNext set p k n x y b c own) e h)

-- each request that was served whole used up a number
pub smaller : (set : Settings) (peer : List ℕ) (k n : BayState) (x y : List ℕ) (b c : ConnState) (own : Option ConnEnd) → own ≡ None
    → ServesNext set peer k n x y b c own → (k.number < MOST_REQUESTS) × (n.number ≡ k.number + 1)
smaller set peer k n x y b c own e (inr h) = absurd (cc (e, h.end_is))
smaller set peer k n x y b c own e (inl h) = by h.serves
  where
    by_outcome : (o : Outcome) → None ≡ end_after o
        → Outcomes set peer h.request k n b.written c.written (Rose b.write_faults c.write_faults) b.wishes c.wishes o → n.number ≡ k.number + 1
    by_outcome outcome.Last e q = absurd (cc e)
    by_outcome outcome.Whole e q = q.2.number_is
    by_outcome outcome.Cut e q = absurd (cc e)
    by_outcome outcome.BackendCut e q = absurd (cc e)
    by_outcome outcome.StreamSpent e q = absurd (cc e)
    by_outcome outcome.NoMemory e q = absurd (cc e)

    by : ServesOne set peer h.request k n b.written c.written (Rose b.write_faults c.write_faults) b.wishes c.wishes own
        → (k.number < MOST_REQUESTS) × (n.number ≡ k.number + 1)
    by (inl q) = (q.few, by_outcome q.outcome (sym e ∙ q.end_is) q.served)
    by (inr q) = absurd (cc (e, q.end_is))

-- ---- one object that is read and written

pub told_kept : (a b : Side) → a ≡ b → a.told ≡ b.told
told_kept a b e = ap (λ (s : Side). s.told) e

pub faults_kept : (a b : Side) → a ≡ b → a.faults ≡ b.faults
faults_kept a b e = ap (λ (s : Side). s.faults) e

pub mark_kept : (a b : Side) → a ≡ b → a.mark ≡ b.mark
mark_kept a b e = ap (λ (s : Side). s.mark) e

pub wishes_kept : (a b : Side) → a ≡ b → a.wishes ≡ b.wishes
wishes_kept a b e = ap (λ (s : Side). s.wishes) e

pub was_read : (left0 left : Option (List ℕ)) (held0 held : List ℕ) (r : Request) → GotRequest left0 left held0 held r → WasRead r
was_read left0 left held0 held r got = record { bytes = got.bytes; after = held; starts = got.starts }

-- what was read first, and then written
module _ (set : Settings) (peer : List ℕ) (m n : BayState) (x y : List ℕ) (left0 left1 left2 written0 written1 written2 : Option (List ℕ))
    (read0 read1 read2 write0 write1 write2 : ℕ) (wishes0 wishes1 wishes2 : Option (List Bool)) (own : Option ConnEnd)
    (left_is : left2 ≡ left1) (written_is : written1 ≡ written0) (read_is : read2 ≡ read1) (write_is : write1 ≡ write0)
    (wishes_are : wishes1 ≡ wishes0) where
  abbrev pub told_before : ConnState
  told_before = record { left = left0; written = written0; read_faults = read0; write_faults = write0; wishes = wishes0 }

  abbrev pub told_after : ConnState
  told_after = record { left = left2; written = written2; read_faults = read2; write_faults = write2; wishes = wishes2 }

  pub next_read : (from : List ℕ) (r : Request) → from ≡ peer → GotRequest left0 left1 x y r
      → ServesOne set from r m n written1 written2 (Rose write1 write2) wishes1 wishes2 own → ServesNext set peer m n x y told_before told_after own
  next_read from r e g h =
      inl (record {
        request = r;
        got = subst (λ (l : Option (List ℕ)). GotRequest left0 l x y r) (sym left_is) g;
        serves = subst (λ (v : Option (List Bool)). ServesOne set peer r m n written0 written2 (Rose write0 write2) v wishes2 own) wishes_are
            (subst (λ (f : ℕ). ServesOne set peer r m n written0 written2 (Rose f write2) wishes1 wishes2 own) write_is
            (subst (λ (o : Option (List ℕ)). ServesOne set peer r m n o written2 (Rose write1 write2) wishes1 wishes2 own) written_is
            (subst (λ (p : List ℕ). ServesOne set p r m n written1 written2 (Rose write1 write2) wishes1 wishes2 own) e h)));
      })

  pub next_none : (t : Stop) → NoRequest left0 left1 x (Rose read0 read1) t → RefusesAt t written1 written2 (Rose write1 write2)
      → wishes2 ≡ wishes1 → n ≡ m → own ≡ Some (end_of_stop t) → ServesNext set peer m n x y told_before told_after own
  next_none t g h quiet same end =
      inr (record {
        stop = t;
        none = subst (λ (l : Option (List ℕ)). NoRequest left0 l x (Rose read0 read2) t) (sym left_is)
            (subst (λ (f : ℕ). NoRequest left0 left1 x (Rose read0 f) t) (sym read_is) g);
        refuses = subst (λ (f : ℕ). RefusesAt t written0 written2 (Rose f write2)) write_is
            (subst (λ (o : Option (List ℕ)). RefusesAt t o written2 (Rose write1 write2)) written_is h);
        wishes = quiet ∙ wishes_are;
        same = same;
        end_is = end;
      })
