-- A pump moves lines from the outlet through those that wait into tries.
use Rattle.std.proofs.Common.{◌≡◌, ◌+◌, ◌<◌, ℕ, List, [], ◌∷◌, ◌++◌, length, length-append, append-nil, append_assoc, refl, sym, ap, ◌∙◌, subst, arith, Bool, true, false, Some, None, Option, inl, inr, Ok, Err, All, is_some}
use Rattle.std.specs.Prelude.{if◌then◌else◌}
use Rattle.std.proofs.lemmas.List.Elements.{All-append, All-cons, All-nil}
use Rattle.front_base.specs.Line.{Line}
use Rattle.truncate_backend.specs.Told.{Joined}
use Rattle.truncate_backend.specs.Tries.{Try, SinkTells, IsNoted, answer_of, try_of, lines_of, done_of}
use Rattle.truncate_backend.specs.Outlets.{OutletTells, Popped, TakesFrom, NoneLeft, count_all, count_left}
use Rattle.batch_backend.specs.declared.limits.Limits.{Limits}
use Rattle.batch_backend.specs.declared.pumped.Pumped.{Pumped}
use Rattle.batch_backend.specs.declared.pumped.Pumped.TheVariants.{Took, Wrote, Lost, Waiting, Idle}
use Rattle.batch_backend.specs.Batches.{Pending, Move, Drained, WithinLimits, IsBatch, is_over, is_whole, is_any, since_of, after_pop}
use Rattle.batch_backend.specs.Closes.{IsSince, IsYoung, EndsAt}
use Rattle.batch_backend.specs.Pumps.{CountsTries, PumpedAs, Put, PutAfter, Moved, PumpMoved, wrote, lost, is_rest}
use Rattle.batch_backend.specs.Flushes.{work_left}
use Rattle.batch_backend.proofs.CloseLemmas.{EndTry, EndBy, due_ends, ends_then, none_ends, one_ends, popped_ends, popped_young, put_young, same_ends}
use Rattle.batch_backend.proofs.LossLemmas.{counted_then, none_counted, one_counted}
use Rattle.batch_backend.proofs.TryLaws.{TryLaws, JoinLaws}

pub joined-none : {T : Type 0} (a : Option (List T)) → Joined a [] a
joined-none None = record { grows = refl }
joined-none (Some xs) = record { grows = sym (append-nil xs) }

pub taken-same : (a b : Option (List Line)) → b ≡ a → Joined a [] b
taken-same a b e = subst (λ (z : Option (List Line)). Joined a [] z) (sym e) (joined-none a)

module _ (law : TryLaws) where
  -- these lines are put
  pub moved-put : (d e : Drained) (put popped : List Line) (o n : OutletTells) (s t : SinkTells) (answer : Pumped)
      → e.limits ≡ d.limits → WithinLimits d.limits put → put ++ e.pending.lines ≡ d.pending.lines ++ popped
      → Put s put answer t → Joined o.taken popped n.taken → Moved d o s (wrote answer) (lost answer) e n t
  moved-put d e put popped o n s t (Wrote k) f w g p j =
      let q = law.one_lines put p.1.sent (answer_of (Ok tt)) in
      let r = law.one_done put p.1.sent in
      let a = ap length q in
      let b = ap length r in
      let z = p.0 in
      record {
        limits = f;
        tries = try_of put p.1.sent (answer_of (Ok tt)) ∷ [];
        popped = popped;
        joined = p.1.is.tries;
        taken = j;
        all = ap (λ l. l ++ e.pending.lines) q ∙ g;
        within = All-cons (λ (t : Try). WithinLimits d.limits t.lines) _ [] w (All-nil (λ (t : Try). WithinLimits d.limits t.lines));
        text_is = p.1.is.text_is;
        noted = All-cons (IsNoted s.text) _ [] (record { lines = refl; sent = p.1.is.whole }) (All-nil (IsNoted s.text));
        were_written = omega arith;
        were_lost = omega arith;
        counted = one_counted s t put p.1.sent (Ok tt) p.1.is.counts;
      }
  moved-put d e put popped o n s t (Lost k) f w g p j =
      let x = p.1.1 in
      let fault = p.1.0 in
      let q = law.one_lines put x.sent (answer_of (Err fault)) in
      let r = law.one_lost put x.sent fault in
      let a = ap length q in
      let b = ap length r in
      let z = p.0 in
      record {
        limits = f;
        tries = try_of put x.sent (answer_of (Err fault)) ∷ [];
        popped = popped;
        joined = x.is.tries;
        taken = j;
        all = ap (λ l. l ++ e.pending.lines) q ∙ g;
        within = All-cons (λ (t : Try). WithinLimits d.limits t.lines) _ [] w (All-nil (λ (t : Try). WithinLimits d.limits t.lines));
        text_is = x.is.text_is;
        noted = All-cons (IsNoted s.text) _ [] (record { lines = refl; sent = x.is.whole }) (All-nil (IsNoted s.text));
        were_written = omega arith;
        were_lost = omega arith;
        counted = one_counted s t put x.sent (Err fault) x.is.counts;
      }
  moved-put d e put popped o n s t Took f w g p j = absurd p
  moved-put d e put popped o n s t Waiting f w g p j = absurd p
  moved-put d e put popped o n s t Idle f w g p j = absurd p

  -- that is one try of these lines
  pub put_tries : (d e : Drained) (put popped : List Line) (o n : OutletTells) (s t : SinkTells) (answer : Pumped)
      → (f : e.limits ≡ d.limits) → (w : WithinLimits d.limits put) → (g : put ++ e.pending.lines ≡ d.pending.lines ++ popped)
      → (p : Put s put answer t) → (j : Joined o.taken popped n.taken)
      → (one : Try) × ((moved-put d e put popped o n s t answer f w g p j).tries ≡ one ∷ []) × (one.lines ≡ put)
  unfolding moved-put
  put_tries d e put popped o n s t (Wrote k) f w g p j = (_, refl, refl)
  put_tries d e put popped o n s t (Lost k) f w g p j = (_, refl, refl)
  put_tries d e put popped o n s t Took f w g p j = absurd p
  put_tries d e put popped o n s t Waiting f w g p j = absurd p
  put_tries d e put popped o n s t Idle f w g p j = absurd p

  ends_put : (d e : Drained) (now : ℕ) (put popped : List Line) (o n : OutletTells) (s t : SinkTells) (answer : Pumped)
      → e.limits ≡ d.limits → WithinLimits d.limits put → put ++ e.pending.lines ≡ d.pending.lines ++ popped
      → Put s put answer t → Joined o.taken popped n.taken → EndTry d.limits now d.pending put e.pending.lines
      → (is_any e.pending.lines ≡ true → IsSince now d.pending e.pending.since)
      → PumpMoved d now o s (wrote answer) (lost answer) e n t
  ends_put d e now put popped o n s t answer f w g p j ends since =
      let one = put_tries d e put popped o n s t answer f w g p j in
      record {
        moved = moved-put d e put popped o n s t answer f w g p j;
        aged = subst (λ (ts : List Try). EndsAt d.limits now d.pending ts e.pending) (sym one.1)
            (one_ends d.limits now d.pending e.pending one.0 put one.2 ends since);
      }

  -- no line is put
  moved_rest : (d e : Drained) (popped : List Line) (o n : OutletTells) (s t : SinkTells) (answer : Pumped)
      → e.limits ≡ d.limits → e.pending.lines ≡ d.pending.lines ++ popped → t ≡ s
      → wrote answer ≡ 0 → lost answer ≡ 0 → Joined o.taken popped n.taken → Moved d o s (wrote answer) (lost answer) e n t
  moved_rest d e popped o n s t answer f g h w l j =
      record {
        limits = f;
        tries = [];
        popped = popped;
        joined = subst (λ (z : SinkTells). Joined s.tries [] z.tries) (sym h) (joined-none s.tries);
        taken = j;
        all = g;
        within = All-nil (λ (t : Try). WithinLimits d.limits t.lines);
        text_is = ap (λ (z : SinkTells). z.text) h;
        noted = All-nil (IsNoted s.text);
        were_written = sym w;
        were_lost = omega arith;
        counted = none_counted s t h;
      }

  ends_rest : (d e : Drained) (now : ℕ) (popped : List Line) (o n : OutletTells) (s t : SinkTells) (answer : Pumped)
      → e.limits ≡ d.limits → e.pending.lines ≡ d.pending.lines ++ popped → t ≡ s
      → wrote answer ≡ 0 → lost answer ≡ 0 → Joined o.taken popped n.taken → EndsAt d.limits now d.pending [] e.pending
      → PumpMoved d now o s (wrote answer) (lost answer) e n t
  unfolding moved_rest
  ends_rest d e now popped o n s t answer f g h w l j ends =
      record { moved = moved_rest d e popped o n s t answer f g h w l j; aged = ends }

  moved_some : (d e : Drained) (now : ℕ) (x : Line) (put : List Line) (o n : OutletTells) (s t : SinkTells) (answer : Pumped)
      → e.limits ≡ d.limits → IsBatch d.limits put → put ++ e.pending.lines ≡ d.pending.lines ++ x ∷ []
      → PutAfter d.pending (Some x) s put answer t → Joined o.taken (x ∷ []) n.taken → EndBy d.limits now d.pending put e.pending
      → PumpMoved d now o s (wrote answer) (lost answer) e n t
  moved_some d e now x [] o n s t answer f w g h j ends =
      ends_rest d e now (x ∷ []) o n s t answer f g h.1 (ap wrote h.0) (ap lost h.0) j ends
  moved_some d e now x (l ∷ ls) o n s t answer f w g h j ends =
      ends_put d e now (l ∷ ls) (x ∷ []) o n s t answer f w g h j ends.0 ends.1

  rest_zero : (b : Bool) → (wrote (if b then Waiting else Idle) ≡ 0) × (lost (if b then Waiting else Idle) ≡ 0)
  rest_zero true = (refl, refl)
  rest_zero false = (refl, refl)

  pick : (b : Bool) (m k : Move) (z : List Line) → m.put ++ m.left.lines ≡ z → k.put ++ k.left.lines ≡ z
      → (if b then m else k).put ++ (if b then m else k).left.lines ≡ z
  pick true m k z h g = h
  pick false m k z h g = g

  -- what is put and what is left are those that waited, and the new line
  parts_of : (limits : Limits) (now : ℕ) (p : Pending) (x : Line)
      → (after_pop limits now p (Some x)).put ++ (after_pop limits now p (Some x)).left.lines ≡ p.lines ++ x ∷ []
  parts_of limits now p x =
      pick (is_over limits p x) _ _ (p.lines ++ x ∷ []) refl
      (pick (is_whole limits (p.lines ++ x ∷ []))
      (record { put = p.lines ++ x ∷ []; left = record { lines = []; since = since_of now p } })
      (record { put = []; left = record { lines = p.lines ++ x ∷ []; since = since_of now p } })
      (p.lines ++ x ∷ []) (append-nil (p.lines ++ x ∷ [])) refl)

  moved_popped : (d e : Drained) (now : ℕ) (line : Option Line) (o n : OutletTells) (s t : SinkTells) (answer : Pumped)
      → e.limits ≡ d.limits → e.pending ≡ (after_pop d.limits now d.pending line).left → Popped o line n
      → PutAfter d.pending line s (after_pop d.limits now d.pending line).put answer t
      → IsBatch d.limits (after_pop d.limits now d.pending line).put → PumpMoved d now o s (wrote answer) (lost answer) e n t
  moved_popped d e now None o n s t answer f l p h w =
      let z = rest_zero (is_any d.pending.lines) in
      ends_rest d e now [] o n s t answer f (ap (λ (k : Pending). k.lines) l ∙ sym (append-nil d.pending.lines)) h.1
      (ap wrote h.0 ∙ z.0) (ap lost h.0 ∙ z.1) (taken-same o.taken n.taken p.0)
      (subst (EndsAt d.limits now d.pending []) (sym l) (same_ends d.limits now d.pending))
  moved_popped d e now (Some x) o n s t answer f l p h w =
      let m : Move = after_pop d.limits now d.pending (Some x) in
      moved_some d e now x m.put o n s t answer f w
      (ap (λ (k : Pending). m.put ++ k.lines) l ∙ parts_of d.limits now d.pending x) h p.0
      (subst (EndBy d.limits now d.pending m.put) (sym l) (popped_ends d.limits now d.pending x))

  pub moved-from : (d e : Drained) (now : ℕ) (o n : OutletTells) (s t : SinkTells) (answer : Pumped)
      → PumpedAs d now o s answer e n t → PumpMoved d now o s (wrote answer) (lost answer) e n t
  moved-from d e now o n s t answer (inl r) =
      ends_put d e now d.pending.lines [] o n s t answer r.limits r.within
      (ap (λ (k : Pending). d.pending.lines ++ k.lines) r.left) r.put
      (subst (λ (z : OutletTells). Joined o.taken [] z.taken) (sym r.outlet) (joined-none o.taken))
      (subst (λ (k : Pending). EndTry d.limits now d.pending d.pending.lines k.lines) (sym r.left) (due_ends d.limits now d.pending r.due))
      (λ h. absurd (let k = ap (λ (z : Pending). is_any z.lines) r.left in cc (sym k ∙ h)))
  moved-from d e now o n s t answer (inr r) =
      moved_popped d e now r.line o n s t answer r.limits r.left r.popped r.put r.within

  -- one move after another
  pub moved-then : JoinLaws → (d e f : Drained) (o n m : OutletTells) (s t u : SinkTells) (w l v k : ℕ)
      → Moved d o s w l e n t → Moved e n t v k f m u → Moved d o s (w + v) (l + k) f m u
  moved-then joins d e f o n m s t u w l v k x y =
      let a = law.done x.tries y.tries in
      let b = law.lines x.tries y.tries in
      let p = length-append (done_of x.tries) (done_of y.tries) in
      let q = length-append (lines_of x.tries) (lines_of y.tries) in
      let c = ap length a in
      let g = ap length b in
      let h = x.were_written in
      let i = x.were_lost in
      let j = y.were_written in
      let r = y.were_lost in
      record {
        limits = y.limits ∙ x.limits;
        tries = x.tries ++ y.tries;
        popped = x.popped ++ y.popped;
        joined = joins.tries s.tries t.tries u.tries x.tries y.tries x.joined y.joined;
        taken = joins.lines o.taken n.taken m.taken x.popped y.popped x.taken y.taken;
        all = ap (λ z. z ++ f.pending.lines) b
            ∙ append_assoc (lines_of x.tries) (lines_of y.tries) f.pending.lines
            ∙ ap (λ z. lines_of x.tries ++ z) y.all
            ∙ sym (append_assoc (lines_of x.tries) e.pending.lines y.popped)
            ∙ ap (λ z. z ++ y.popped) x.all
            ∙ append_assoc d.pending.lines x.popped y.popped;
        within = All-append (λ (t : Try). WithinLimits d.limits t.lines) x.tries y.tries x.within
            (subst (λ (z : Limits). All (λ (t : Try). WithinLimits z t.lines) y.tries) x.limits y.within);
        text_is = y.text_is ∙ x.text_is;
        noted = All-append (IsNoted s.text) x.tries y.tries x.noted
            (subst (λ (text : List Line → List ℕ). All (IsNoted text) y.tries) x.text_is y.noted);
        were_written = omega arith;
        were_lost = omega arith;
        counted = counted_then law s t u x.tries y.tries x.counted y.counted;
      }

  pub then_tries : (joins : JoinLaws) (d e f : Drained) (o n m : OutletTells) (s t u : SinkTells) (w l v k : ℕ)
      → (x : Moved d o s w l e n t) → (y : Moved e n t v k f m u)
      → (moved-then joins d e f o n m s t u w l v k x y).tries ≡ x.tries ++ y.tries
  unfolding moved-then
  then_tries joins d e f o n m s t u w l v k x y = refl

  pub full-then : JoinLaws → (d e f : Drained) (now : ℕ) (o n m : OutletTells) (s t u : SinkTells) (w l v k : ℕ)
      → PumpMoved d now o s w l e n t → PumpMoved e now n t v k f m u → PumpMoved d now o s (w + v) (l + k) f m u
  unfolding moved-then
  full-then joins d e f now o n m s t u w l v k x y =
      record {
        moved = moved-then joins d e f o n m s t u w l v k x.moved y.moved;
        aged = ends_then d.limits now d.pending e.pending f.pending x.moved.tries y.moved.tries x.aged
            (subst (λ (z : Limits). EndsAt z now e.pending y.moved.tries f.pending) x.moved.limits y.aged);
      }

-- what waits after a pump is young
pub young-from : (d e : Drained) (now : ℕ) (o n : OutletTells) (s t : SinkTells) (answer : Pumped)
    → PumpedAs d now o s answer e n t → IsYoung d.limits now e.pending
young-from d e now o n s t answer (inl r) = subst (IsYoung d.limits now) (sym r.left) (put_young d.limits now d.pending.since)
young-from d e now o n s t answer (inr r) = subst (IsYoung d.limits now) (sym r.left) (popped_young d.limits now d.pending r.line r.due)

-- ---- how much is left

count_append : (xs ys : List (List Line)) → count_all (xs ++ ys) ≡ count_all xs + count_all ys
count_append [] ys = omega arith
count_append (x ∷ xs) ys = let i = count_append xs ys in omega arith

pop_counts : (a b : Option (List (List Line))) (x : Line) → is_some a ≡ true → TakesFrom a x b
    → (is_some b ≡ true) × (count_left a ≡ count_left b + 1)
pop_counts None b x h k = cc
pop_counts (Some xs) None x h k = absurd k
pop_counts (Some xs) (Some ys) x h k =
    let p = count_append k.before ((x ∷ k.rest) ∷ k.after) in
    let q = count_append k.before (k.rest ∷ k.after) in
    let e = ap count_all k.was in
    let f = ap count_all k.is in
    (refl, omega arith)

popped_told : (o n : OutletTells) (line : Option Line) → Popped o line n → is_some o.left ≡ true → is_some n.left ≡ true
popped_told o n None p h = ap is_some p.3 ∙ h
popped_told o n (Some x) p h = (pop_counts o.left n.left x h p.2).0

pub told-kept : (d e : Drained) (now : ℕ) (o n : OutletTells) (s t : SinkTells) (answer : Pumped)
    → PumpedAs d now o s answer e n t → is_some o.left ≡ true → is_some n.left ≡ true
told-kept d e now o n s t answer (inl r) h = ap (λ (z : OutletTells). is_some z.left) r.outlet ∙ h
told-kept d e now o n s t answer (inr r) h = popped_told o n r.line r.popped h

rests_is : (b : Bool) → is_rest (if b then Waiting else Idle) ≡ true
rests_is true = refl
rests_is false = refl

put_no_rest : (s t : SinkTells) (lines : List Line) (answer : Pumped) → Put s lines answer t → is_rest answer ≡ true → ⊥
put_no_rest s t lines (Wrote n) p h = cc
put_no_rest s t lines (Lost n) p h = cc
put_no_rest s t lines Took p h = p
put_no_rest s t lines Waiting p h = p
put_no_rest s t lines Idle p h = p

after_some_no_rest : (p : Pending) (x : Line) (put : List Line) (s t : SinkTells) (answer : Pumped)
    → PutAfter p (Some x) s put answer t → is_rest answer ≡ true → ⊥
after_some_no_rest p x [] s t answer a h = let q = ap is_rest a.0 in cc
after_some_no_rest p x (l ∷ ls) s t answer a h = put_no_rest s t (l ∷ ls) answer a h

none_left : (a b : Option (List (List Line))) → b ≡ a → NoneLeft a → NoneLeft b
none_left a b e h = subst NoneLeft (sym e) h

rest_popped : (d : Drained) (now : ℕ) (line : Option Line) (o n : OutletTells) (s t : SinkTells) (answer : Pumped)
    → Popped o line n → PutAfter d.pending line s (after_pop d.limits now d.pending line).put answer t
    → is_rest answer ≡ true → NoneLeft n.left
rest_popped d now None o n s t answer p a h = none_left o.left n.left p.3 p.2
rest_popped d now (Some x) o n s t answer p a h = absurd (after_some_no_rest d.pending x _ s t answer a h)

pub rest-none : (d e : Drained) (now : ℕ) (o n : OutletTells) (s t : SinkTells) (answer : Pumped)
    → PumpedAs d now o s answer e n t → is_rest answer ≡ true → NoneLeft n.left
rest-none d e now o n s t answer (inl r) h = absurd (put_no_rest s t d.pending.lines answer r.put h)
rest-none d e now o n s t answer (inr r) h = rest_popped d now r.line o n s t answer r.popped r.put h

less_popped : (d e : Drained) (now : ℕ) (line : Option Line) (o n : OutletTells) (s t : SinkTells) (answer : Pumped)
    → Popped o line n → PutAfter d.pending line s (after_pop d.limits now d.pending line).put answer t
    → is_some o.left ≡ true → is_rest answer ≡ false → work_left e n < work_left d o
less_popped d e now None o n s t answer p a h k = let q = ap is_rest a.0 ∙ rests_is (is_any d.pending.lines) in cc
less_popped d e now (Some x) o n s t answer p a h k =
    let q = (pop_counts o.left n.left x h p.2).1 in
    omega arith

pub less-work : (d e : Drained) (now : ℕ) (o n : OutletTells) (s t : SinkTells) (answer : Pumped)
    → PumpedAs d now o s answer e n t → is_some o.left ≡ true → is_rest answer ≡ false → work_left e n < work_left d o
less-work d e now o n s t answer (inl r) h k =
    let a = ap (λ (z : Pending). length z.lines) r.left in
    let b = ap (λ (z : OutletTells). count_left z.left) r.outlet in
    let c = r.within.some in
    omega arith
less-work d e now o n s t answer (inr r) h k =
    less_popped d e now r.line o n s t answer r.popped r.put h k
