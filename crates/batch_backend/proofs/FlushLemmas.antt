-- Pumps one after another.
use Rattle.std.proofs.Common.{◌≡◌, ◌+◌, ◌-◌, ◌<◌, ◌^◌, min, ℕ, List, [], ◌∷◌, ◌++◌, length, append-nil, append_assoc, refl, sym, ap, ◌∙◌, subst, arith, true, false, is_some}
use Rattle.std.proofs.lemmas.List.Elements.{All-append, All-cons, All-nil}
use Rattle.front_base.specs.Line.{Line}
use Rattle.truncate_backend.specs.Tries.{Try, SinkTells, IsNoted}
use Rattle.truncate_backend.specs.Outlets.{OutletTells}
use Rattle.batch_backend.specs.declared.limits.Limits.{Limits}
use Rattle.batch_backend.specs.declared.pumped.Pumped.{Pumped}
use Rattle.batch_backend.specs.Batches.{Drained, WithinLimits, PendsWithin}
use Rattle.batch_backend.specs.Closes.{AllButLastEnd, IsPutAt, Times}
use Rattle.batch_backend.specs.Pumps.{PumpedAs, Put, Moved, PumpMoved, wrote, lost, is_rest}
use Rattle.batch_backend.specs.Flushes.{Pumps, PutRest, FlushedAs, FlushMoved, PumpedOn, PumpedOut, written_of, lost_of}
use Rattle.batch_backend.proofs.LossLemmas.{none_counted}
use Rattle.batch_backend.proofs.CloseLemmas.{but_last, but_last_put, put_on, same_ends, since_is, time_of}
use Rattle.batch_backend.proofs.TryLaws.{TryLaws, JoinLaws}
use Rattle.batch_backend.proofs.PumpLemmas.{joined-none, moved-put, put_tries, moved-from, moved-then, then_tries, full-then, told-kept, rest-none, less-work}
use Rattle.batch_backend.proofs.PartLemmas.{pends-on, none-pends}

-- ---- so far

pub none-yet : (d : Drained) (now : ℕ) (o : OutletTells) (s : SinkTells) → is_some o.left ≡ true → PumpedOn d now o s 0 0 d o s
none-yet d now o s h =
    record {
      answers = [];
      pumps = (refl, refl, refl);
      went_on = All-nil (λ (a : Pumped). is_rest a ≡ false);
      few = omega arith;
      told = h;
      written_is = omega arith;
      lost_is = omega arith;
    }

-- one pump more
pub pump-more : (d e f : Drained) (now : ℕ) (o n m : OutletTells) (s t u : SinkTells) (w l x y : ℕ) (answer : Pumped)
    → PumpedOn d now o s w l e n t → PumpedAs e now n t answer f m u → is_rest answer ≡ false
    → x ≡ min (w + wrote answer) (2 ^ 64 - 1) → y ≡ min (l + lost answer) (2 ^ 64 - 1) → PumpedOn d now o s x y f m u
pump-more d e f now o n m s t u w l x y answer p a r g h =
    let c = less-work e f now n m t u answer a p.told r in
    let k = p.few in
    let i = p.written_is in
    let j = p.lost_is in
    record {
      answers = answer ∷ p.answers;
      pumps = (e, (n, (t, (p.pumps, a))));
      went_on = All-cons (λ (a : Pumped). is_rest a ≡ false) answer p.answers r p.went_on;
      few = omega arith;
      told = told-kept e f now n m t u answer a p.told;
      written_is = omega arith;
      lost_is = omega arith;
    }

-- the last pump
pub pump-last : (d e f : Drained) (now : ℕ) (o n m : OutletTells) (s t u : SinkTells) (w l x y : ℕ) (answer : Pumped)
    → PumpedOn d now o s w l e n t → PumpedAs e now n t answer f m u → is_rest answer ≡ true
    → x ≡ min (w + wrote answer) (2 ^ 64 - 1) → y ≡ min (l + lost answer) (2 ^ 64 - 1) → PumpedOut d now o s x y f m u
pump-last d e f now o n m s t u w l x y answer p a r g h =
    let k = p.few in
    let i = p.written_is in
    let j = p.lost_is in
    record {
      before = p.answers;
      last = answer;
      pumps = (e, (n, (t, (p.pumps, a))));
      rested = r;
      went_on = p.went_on;
      few = omega arith;
      left = (told-kept e f now n m t u answer a p.told, rest-none e f now n m t u answer a r);
      written_is = omega arith;
      lost_is = omega arith;
    }

-- ---- what the pumps moved

stayed : (d e : Drained) (o n : OutletTells) (s t : SinkTells) → e ≡ d → n ≡ o → t ≡ s → Moved d o s 0 0 e n t
stayed d e o n s t f g h =
    rw (f, g, h) (record {
      limits = refl;
      tries = [];
      popped = [];
      joined = joined-none s.tries;
      taken = joined-none o.taken;
      all = sym (append-nil d.pending.lines);
      within = All-nil (λ (t : Try). WithinLimits d.limits t.lines);
      text_is = refl;
      noted = All-nil (IsNoted s.text);
      were_written = refl;
      were_lost = refl;
      counted = none_counted s s refl;
    })

full_stayed : (d e : Drained) (now : ℕ) (o n : OutletTells) (s t : SinkTells) → e ≡ d → n ≡ o → t ≡ s → PumpMoved d now o s 0 0 e n t
unfolding stayed
full_stayed d e now o n s t f g h =
    rw (f, g, h) (record {
      moved = stayed d d o o s s refl refl refl;
      aged = same_ends d.limits now d.pending;
    })

pub pumps-move : TryLaws → JoinLaws → (answers : List Pumped) (d e : Drained) (now : ℕ) (o n : OutletTells) (s t : SinkTells)
    → Pumps answers d now o s e n t → PumpMoved d now o s (written_of answers) (lost_of answers) e n t
pumps-move law joins [] d e now o n s t p = full_stayed d e now o n s t p.0 p.1 p.2
pumps-move law joins (answer ∷ before) d e now o n s t (f, (m, (u, (p, a)))) =
    full-then law joins d f e now o m n s u t (written_of before) (lost_of before) (wrote answer) (lost answer)
    (pumps-move law joins before d f now o m s u p) (moved-from law f e now m n u t answer a)

pub pumps-pend : (answers : List Pumped) (d e : Drained) (now : ℕ) (o n : OutletTells) (s t : SinkTells)
    → Pumps answers d now o s e n t → PendsWithin d.limits d.pending.lines → PendsWithin e.limits e.pending.lines
pumps-pend [] d e now o n s t p h = subst (λ (z : Drained). PendsWithin z.limits z.pending.lines) (sym p.0) h
pumps-pend (answer ∷ before) d e now o n s t (f, (m, (u, (p, a)))) h =
    pends-on f e now m n u t answer a (pumps-pend before d f now o m s u p h)

-- ---- the put of what waits

no_put : (lines : List Line) (s : SinkTells) → length lines ≡ 0 → PutRest lines s s
no_put [] s h = refl
no_put (l ∷ ls) s h = absurd (omega arith)

one_put : (lines : List Line) (s t : SinkTells) (answer : Pumped) → 0 < length lines → Put s lines answer t → PutRest lines s t
one_put [] s t answer h p = absurd (omega arith)
one_put (l ∷ ls) s t answer h p = (answer, p)

module _ (d e : Drained) (now : ℕ) (o n : OutletTells) (s t : SinkTells) (w l : ℕ) (p : PumpedOut d now o s w l e n t) where
  flushed_by : (u : SinkTells) → PutRest e.pending.lines t u → FlushedAs d now o s n u
  flushed_by u put =
      record {
        before = p.before;
        last = p.last;
        between = e;
        tells = t;
        pumps = p.pumps;
        rested = p.rested;
        went_on = p.went_on;
        few = p.few;
        put = put;
      }

  pub flushed-none : length e.pending.lines ≡ 0 → FlushedAs d now o s n t
  flushed-none h = flushed_by t (no_put e.pending.lines t h)

  pub flushed-put : (u : SinkTells) (answer : Pumped) → 0 < length e.pending.lines → Put t e.pending.lines answer u
      → FlushedAs d now o s n u
  flushed-put u answer h q = flushed_by u (one_put e.pending.lines t u answer h q)

  pub flush-moved : TryLaws → JoinLaws → FlushMoved d now o s (w, l) e n t
  flush-moved law joins =
      let x = pumps-move law joins (p.last ∷ p.before) d e now o n s t p.pumps in
      record {
        written = written_of (p.last ∷ p.before);
        lost = lost_of (p.last ∷ p.before);
        moved = x.moved;
        written_is = p.written_is;
        lost_is = p.lost_is;
        times = x.aged.times;
        put = x.aged.put;
        ends = λ before earlier h.
            but_last d.limits (before ++ x.moved.tries) (earlier ++ x.aged.times) e.pending.lines (x.aged.ends before earlier h);
      }

  pub flush-moved-put : TryLaws → JoinLaws → (f : Drained) (u : SinkTells) (answer : Pumped) (x y : ℕ)
      → f.limits ≡ e.limits → f.pending.lines ≡ [] → WithinLimits e.limits e.pending.lines → Put t e.pending.lines answer u
      → x ≡ min (w + wrote answer) (2 ^ 64 - 1) → y ≡ min (l + lost answer) (2 ^ 64 - 1) → FlushMoved d now o s (x, y) f n u
  flush-moved-put law joins f u answer x y g h within put i j =
      let a = p.written_is in
      let b = p.lost_is in
      let back = ap (λ z. e.pending.lines ++ z) h in
      let m = moved-put law e f e.pending.lines [] n n t u answer g within back put (joined-none n.taken) in
      let q = put_tries law e f e.pending.lines [] n n t u answer g within back put (joined-none n.taken) in
      let z = pumps-move law joins (p.last ∷ p.before) d e now o n s t p.pumps in
      record {
        written = written_of (p.last ∷ p.before) + wrote answer;
        lost = lost_of (p.last ∷ p.before) + lost answer;
        moved = moved-then law joins d e f o n n s t u (written_of (p.last ∷ p.before)) (lost_of (p.last ∷ p.before))
            (wrote answer) (lost answer) z.moved m;
        written_is = omega arith;
        lost_is = omega arith;
        times = z.aged.times ++ time_of now e.pending ∷ [];
        put = All-append (IsPutAt now d.pending) z.aged.times (time_of now e.pending ∷ []) z.aged.put
            (put_on now d.pending e.pending z.aged.since (time_of now e.pending ∷ [])
            (All-cons (IsPutAt now e.pending) (time_of now e.pending) [] (refl, since_is now e.pending) (All-nil (IsPutAt now e.pending))));
        ends = λ before earlier h'.
            subst (λ (ts : List Try). AllButLastEnd d.limits (before ++ ts) (earlier ++ (z.aged.times ++ time_of now e.pending ∷ [])))
            (sym (then_tries law joins d e f o n n s t u (written_of (p.last ∷ p.before)) (lost_of (p.last ∷ p.before))
            (wrote answer) (lost answer) z.moved m ∙ ap (λ (ts : List Try). z.moved.tries ++ ts) q.1))
            (subst (λ (w : List Try × List Times). AllButLastEnd d.limits w.0 w.1)
            (λ i. (append_assoc before z.moved.tries (q.0 ∷ []) i, append_assoc earlier z.aged.times (time_of now e.pending ∷ []) i))
            (but_last_put d.limits (before ++ z.moved.tries) (earlier ++ z.aged.times) e.pending.lines q.0 (time_of now e.pending) q.2
            (z.aged.ends before earlier h')));
      }

  pub flush-pends : PendsWithin d.limits d.pending.lines → PendsWithin e.limits e.pending.lines
  flush-pends = pumps-pend (p.last ∷ p.before) d e now o n s t p.pumps

  pub flush-pends-put : (f : Drained) → f.limits ≡ e.limits → f.pending.lines ≡ []
      → PendsWithin d.limits d.pending.lines → PendsWithin f.limits f.pending.lines
  flush-pends-put f g h k =
      subst (λ (z : Limits). PendsWithin z f.pending.lines) (sym g)
      (subst (λ (z : List Line). PendsWithin e.limits z) (sym h) (none-pends e.limits e.pending.lines (flush-pends k)))
