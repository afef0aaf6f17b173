-- What a drainer has taken, through pumps and a flush.
use Rattle.std.proofs.Common.{◌≡◌, ◌<◌, ◌≤◌, ◌+◌, ◌-◌, ◌^◌, min, ℕ, zero, suc, List, [], ◌∷◌, ◌++◌, take, length, length-append, append_assoc, append-nil, Option, Some, None, IfSome, All, refl, sym, ap, ◌∙◌, subst, arith, inl, inr, map, get_or, sum_by}
use Rattle.std.proofs.lemmas.List.Elements.{All-append, All-nil}
use Rattle.batch_backend.specs.Batches.{Drained, WithinLimits, is_any}
use Rattle.batch_backend.specs.Closes.{AllEnd, IsYoung}
use Rattle.batch_backend.specs.Flushes.{Pumps, FlushMoved}
use Rattle.batch_backend.specs.Pumps.{Moved, PumpMoved}
use Rattle.batch_backend.specs.declared.limits.Limits.{Limits}
use Rattle.batch_backend.specs.declared.pumped.Pumped.{Pumped}
use Rattle.front_base.specs.Line.{Line}
use Rattle.front_ports.specs.Told.{Grows}
use Rattle.queue_drain.specs.Drains.{DrainState, Accounts, EndsDrain}
use Rattle.queue_drain.specs.Turns.{Turned, WaitsInTime}
use Rattle.queue_drain.proofs.TurnLemmas.{turned_more, waits_more}
use Rattle.shared_queue.specs.Bays.{of_bay}
use Rattle.shared_queue.specs.Ends.{TellsParts}
use Rattle.shared_queue.specs.Lanes.{lane_accepted, lane_fulls}
use Rattle.shared_queue.specs.declared.lane.QueueLane.{QueueLane}
use Rattle.truncate_backend.specs.Outlets.{OutletTells, Popped}
use Rattle.truncate_backend.specs.Told.{Joined}
use Rattle.truncate_backend.specs.Tries.{Try, SinkTells, IsNoted, lines_of, done_of, faults_in, refusals_in}

-- nothing was taken yet
pub accounts_none : (limits : Limits) (home : List ℕ) (taken waits : List Line) (since began clock : ℕ) (given : Option (List ℕ)) (s : SinkTells)
    → taken ≡ [] → waits ≡ [] → IfSome s.tries (λ own. own ≡ []) → s.faults ≡ 0 → s.refusals ≡ 0 → clock ≡ began
    → Turned limits began began given (began ∷ []) []
    → Accounts (record { limits = limits; home = home; taken = taken; waits = waits; since = since; began = began; last = began; given = given; clock = clock; sink = s; written = 0; lost = 0 })
accounts_none limits home taken waits since began clock given s p q h f r c t = record {
  tries = [];
  told = h;
  all = q ∙ sym p;
  within = All-nil (λ (t : Try). WithinLimits limits t.lines);
  noted = All-nil (IsNoted s.text);
  unwritten = 0;
  each = refl;
  written_is = omega arith;
  lost_is = omega arith;
  faults_are = omega (arith, f);
  refusals_are = omega (arith, r);
  clock_is = c;
  turns = began ∷ [];
  times = [];
  turned = t;
  ends = tt;
  waiting = record {
    taken = λ any. absurd (cc (ap is_any q ∙ refl, any));
    after = λ any. absurd (cc (ap is_any q ∙ refl, any));
    young = λ any. absurd (cc (ap is_any q ∙ refl, any));
  };
}

told_more : (a b : Option (List Try)) (old more : List Try) → IfSome a (λ own. own ≡ old) → Joined a more b
    → IfSome b (λ own. own ≡ old ++ more)
told_more a None old more h j = tt
told_more None (Some ys) old more h j = let q = j.grows in cc
told_more (Some xs) (Some ys) old more h j = j.grows ∙ ap (λ z. z ++ more) h

taken_more : (a b : Option (List Line)) (xs ys popped : List Line) → a ≡ Some xs → b ≡ Some ys → Joined a popped b → ys ≡ xs ++ popped
taken_more a None xs ys popped p q j = cc
taken_more None (Some bs) xs ys popped p q j = cc
taken_more (Some as') (Some bs) xs ys popped p q j =
    let g = j.grows in
    let e : as' ≡ xs = cc in
    let f : ys ≡ bs = cc in
    f ∙ (g ∙ ap (λ z. z ++ popped) e)

-- what the tries since the start come to
record Sums (limits : Limits) (taken waits : List Line) (s : SinkTells) (written lost : ℕ) (tries : List Try) : Type 0 where
  pub told : IfSome s.tries (λ own. own ≡ tries)
  pub all : lines_of tries ++ waits ≡ taken
  pub within : All (λ (t : Try). WithinLimits limits t.lines) tries
  pub noted : All (IsNoted s.text) tries
  pub unwritten : ℕ
  pub each : length (done_of tries) + unwritten ≡ length (lines_of tries)
  pub written_is : written ≡ min (length (done_of tries)) (2 ^ 64 - 1)
  pub lost_is : lost ≡ min unwritten (2 ^ 64 - 1)
  pub faults_are : s.faults ≡ min (faults_in tries) (2 ^ 64 - 1)
  pub refusals_are : s.refusals ≡ min (refusals_in tries) (2 ^ 64 - 1)

abbrev state_of : Drained → List ℕ → List Line → ℕ → ℕ → Option (List ℕ) → ℕ → SinkTells → ℕ → ℕ → DrainState
state_of p home taken began last given clock s written lost = record {
  limits = p.limits;
  home = home;
  taken = taken;
  waits = p.pending.lines;
  since = p.pending.since;
  began = began;
  last = last;
  given = given;
  clock = clock;
  sink = s;
  written = written;
  lost = lost;
}

sums_of : (d : DrainState) → (a : Accounts d) → Sums d.limits d.taken d.waits d.sink d.written d.lost a.tries
sums_of d a = record {
  told = a.told;
  all = a.all;
  within = a.within;
  noted = a.noted;
  unwritten = a.unwritten;
  each = a.each;
  written_is = a.written_is;
  lost_is = a.lost_is;
  faults_are = a.faults_are;
  refusals_are = a.refusals_are;
}

module _ (lines : (these those : List Try) → lines_of (these ++ those) ≡ lines_of these ++ lines_of those)
    (done : (these those : List Try) → done_of (these ++ those) ≡ done_of these ++ done_of those)
    (faults : (these those : List Try) → faults_in (these ++ those) ≡ faults_in these + faults_in those)
    (refusals : (these those : List Try) → refusals_in (these ++ those) ≡ refusals_in these + refusals_in those)
    (cause : (these : List Try) → length (done_of these) < length (lines_of these) → 0 < faults_in these + refusals_in these) where
  -- these tries and pops more
  sums_more : (p q : Drained) (taken more : List Line) (o n : OutletTells) (s t : SinkTells)
      (w l written lost after after_lost : ℕ) (ts : List Try)
      → (m : Moved p o s w l q n t) → o.taken ≡ Some taken → n.taken ≡ Some more
      → after ≡ min (written + w) (2 ^ 64 - 1) → after_lost ≡ min (lost + l) (2 ^ 64 - 1)
      → Sums p.limits taken p.pending.lines s written lost ts
      → Sums q.limits more q.pending.lines t after after_lost (ts ++ m.tries)
  sums_more p q taken more o n s t w l written lost after after_lost ts m e f g h a =
      let ms = m.tries in
      let d : length (done_of (ts ++ ms)) ≡ length (done_of ts) + length (done_of ms) = ap length (done ts ms) ∙ length-append (done_of ts) (done_of ms) in
      let k : length (lines_of (ts ++ ms)) ≡ length (lines_of ts) + length (lines_of ms) = ap length (lines ts ms) ∙ length-append (lines_of ts) (lines_of ms) in
      record {
        told = told_more s.tries t.tries ts ms a.told m.joined;
        all = ap (λ z. z ++ q.pending.lines) (lines ts ms)
            ∙ (append_assoc (lines_of ts) (lines_of ms) q.pending.lines
            ∙ (ap (λ z. lines_of ts ++ z) m.all
            ∙ (sym (append_assoc (lines_of ts) p.pending.lines m.popped)
            ∙ (ap (λ z. z ++ m.popped) a.all ∙ sym (taken_more o.taken n.taken taken more m.popped e f m.taken)))));
        within = subst (λ (z : Limits). All (λ (t : Try). WithinLimits z t.lines) (ts ++ ms)) (sym m.limits)
            (All-append (λ (t : Try). WithinLimits p.limits t.lines) ts ms a.within m.within);
        noted = subst (λ (text : List Line → List ℕ). All (IsNoted text) (ts ++ ms)) (sym m.text_is)
            (All-append (IsNoted s.text) ts ms a.noted m.noted);
        unwritten = a.unwritten + l;
        each = omega (arith, d, k, a.each, m.were_lost);
        written_is = omega (arith, d, a.written_is, m.were_written, g);
        lost_is = omega (arith, a.lost_is, h);
        faults_are =
            (let c = m.counted.faults (omega (arith, a.faults_are)) in omega (arith, c, a.faults_are, faults ts ms));
        refusals_are =
            (let c = m.counted.refusals (omega (arith, a.refusals_are)) in omega (arith, c, a.refusals_are, refusals ts ms));
      }

  -- a line stayed unwritten only where a try ended by a fault or a refusal
  sums_cause : (limits : Limits) (taken waits : List Line) (s : SinkTells) (written lost : ℕ) (ts : List Try)
      → (a : Sums limits taken waits s written lost ts) → 0 < a.unwritten → 0 < s.faults + s.refusals
  sums_cause limits taken waits s written lost ts a some =
      let one = cause ts (omega (arith, a.each, some)) in
      omega (arith, one, a.faults_are, a.refusals_are)

  -- a clock that is at the last turn gives the next one
  next_turn : (told last now moment : ℕ) → told ≡ last → told ≤ moment → (last ≤ moment → now ≡ moment) → now ≡ moment
  next_turn told last now moment e le h = h (omega (arith, e, le))

  pub accounts_more : (p q : Drained) (home back : List ℕ) (taken more : List Line) (o n : OutletTells) (s t : SinkTells)
      (began last now moment w l written lost after after_lost : ℕ) (given gives : Option (List ℕ)) (told clock : ℕ)
      → PumpMoved p now o s w l q n t → IsYoung p.limits now q.pending → o.taken ≡ Some taken → n.taken ≡ Some more → last ≤ now
      → (last ≤ moment → now ≡ moment) → Grows given gives (moment ∷ []) → told ≤ moment → clock ≡ moment
      → after ≡ min (written + w) (2 ^ 64 - 1) → after_lost ≡ min (lost + l) (2 ^ 64 - 1)
      → Accounts (state_of p home taken began last given told s written lost) → Accounts (state_of q back more began now gives clock t after after_lost)
  accounts_more p q home back taken more o n s t began last now moment w l written lost after after_lost given gives told clock
      m young e f le next g tl cl wr ls a =
      let sums = sums_more p q taken more o n s t w l written lost after after_lost a.tries m.moved e f wr ls
      (sums_of (state_of p home taken began last given told s written lost) a) in
      let same : now ≡ moment = next_turn told last now moment a.clock_is tl next in
      let back_to = sym m.moved.limits in
      let times = a.times ++ m.aged.times in
      let turns = a.turns ++ now ∷ [] in
      record {
        tries = a.tries ++ m.moved.tries;
        told = sums.told;
        all = sums.all;
        within = sums.within;
        noted = sums.noted;
        unwritten = sums.unwritten;
        each = sums.each;
        written_is = sums.written_is;
        lost_is = sums.lost_is;
        faults_are = sums.faults_are;
        refusals_are = sums.refusals_are;
        clock_is = cl ∙ sym same;
        turns = turns;
        times = times;
        turned = subst (λ (z : Limits). Turned z began now gives turns times) back_to
            (turned_more p.limits began last now moment given gives a.turns p.pending a.times m.aged.times le g (sym same) a.waiting m.aged.put a.turned);
        ends = subst (λ (z : Limits). AllEnd z (a.tries ++ m.moved.tries) times q.pending.lines) back_to (m.aged.ends a.tries a.times a.ends);
        waiting = subst (λ (z : Limits). WaitsInTime z turns now q.pending.lines q.pending.since) back_to
            (waits_more p.limits a.turns last now p.pending q.pending le a.waiting m.aged.since young);
      }

  -- all was taken and put
  pub ends_drain : {R : Type 0} (p q : Drained) (home : List ℕ) (lanes : List (QueueLane R)) (accepted : List (List Line))
      (taken more : List Line) (o n : OutletTells) (s t : SinkTells) (began last now moment from ended written lost fulls : ℕ) (answer : ℕ × ℕ)
      (after after_lost : ℕ) (given gives : Option (List ℕ)) (told : ℕ)
      → (m : FlushMoved p now o s answer q n t) → o.taken ≡ Some taken → n.taken ≡ Some more → last ≤ now
      → (last ≤ moment → now ≡ moment) → Grows given gives (moment ∷ []) → told ≤ moment
      → after ≡ min (written + m.written) (2 ^ 64 - 1) → after_lost ≡ min (lost + m.lost) (2 ^ 64 - 1)
      → Accounts (state_of p home taken began last given told s written lost) → q.pending.lines ≡ []
      → accepted ≡ map lane_accepted lanes → ((bay : ℕ) → get_or accepted bay [] ≡ of_bay bay more)
      → fulls ≡ min (sum_by lane_fulls lanes) (2 ^ 64 - 1) → from ≡ began → ended ≡ now
      → EndsDrain p.limits lanes t after after_lost fulls from ended gives
  ends_drain p q home lanes accepted taken more o n s t began last now moment from ended written lost fulls answer after after_lost given gives told
      m e f le next g tl wr ls a none all each fs b0 e0 =
      let sums = sums_more p q taken more o n s t m.written m.lost written lost after after_lost a.tries m.moved e f wr ls
      (sums_of (state_of p home taken began last given told s written lost) a) in
      let ts = a.tries ++ m.moved.tries in
      let same : lines_of ts ≡ more = sym (append-nil (lines_of ts)) ∙ (ap (λ z. lines_of ts ++ z) (sym none) ∙ sums.all) in
      let next_is : now ≡ moment = next_turn told last now moment a.clock_is tl next in
      let turns = a.turns ++ now ∷ [] in
      let times = a.times ++ m.times in
      record {
        tries = ts;
        told = sums.told;
        bays = λ bay. ap (λ z. get_or z bay []) (sym all) ∙ (each bay ∙ ap (of_bay bay) (sym same));
        within = subst (λ (z : Limits). All (λ (t : Try). WithinLimits z t.lines) ts) m.moved.limits sums.within;
        noted = sums.noted;
        unwritten = sums.unwritten;
        each = sums.each;
        written_is = sums.written_is;
        lost_is = sums.lost_is;
        faults_are = sums.faults_are;
        refusals_are = sums.refusals_are;
        cause = sums_cause q.limits more q.pending.lines t after after_lost ts sums;
        fulls_are = fs;
        in_time = record {
          turns = turns;
          times = times;
          turned = subst (λ (z : ℕ × ℕ). Turned p.limits z.0 z.1 gives turns times) (λ i. (sym b0 i, sym e0 i))
              (turned_more p.limits began last now moment given gives a.turns p.pending a.times m.times le g (sym next_is) a.waiting m.put a.turned);
          ends = m.ends a.tries a.times a.ends;
        };
      }

-- pumps keep the account of an outlet that tells what is left
pub pumps_keep : ((accepted : List (List Line)) (capacity : ℕ) (m n : OutletTells) (line : Option Line)
    → TellsParts accepted capacity m → Popped m line n → TellsParts accepted capacity n)
    → (accepted : List (List Line)) (capacity : ℕ) (answers : List Pumped) (d e : Drained) (now : ℕ) (o n : OutletTells) (s t : SinkTells)
    → Pumps answers d now o s e n t → TellsParts accepted capacity o → TellsParts accepted capacity n
pumps_keep pop accepted capacity [] d e now o n s t p h = subst (TellsParts accepted capacity) (sym p.1) h
pumps_keep pop accepted capacity (answer ∷ before) d e now o n s t (f, (m, (u, (p, inl r)))) h =
    subst (TellsParts accepted capacity) (sym r.outlet) (pumps_keep pop accepted capacity before d f now o m s u p h)
pumps_keep pop accepted capacity (answer ∷ before) d e now o n s t (f, (m, (u, (p, inr r)))) h =
    pop accepted capacity m n r.line (pumps_keep pop accepted capacity before d f now o m s u p h) r.popped

-- ---- moments

-- the first of the moments that a clock gave
pub first_given : (given : Option (List ℕ)) (turns : List ℕ) (began : ℕ) → IfSome given (λ moments. moments ≡ turns) → take 1 turns ≡ began ∷ []
    → IfSome given (λ moments. take 1 moments ≡ began ∷ [])
first_given None turns began h f = tt
first_given (Some moments) turns began h f = ap (take 1) h ∙ f

pub one_later : (told last now : ℕ) → told ≡ last → told ≤ now → last ≤ now
one_later told last now e h = omega arith
