-- Turns of a drainer, one after another.
use Rattle.std.proofs.Common.{◌≡◌, ◌<◌, ◌≤◌, ◌-◌, max, true, inl, inr, ℕ, zero, suc, List, [], ◌∷◌, ◌++◌, length, get_or, take, Option, Some, None, IfSome, All, refl, sym, ap, ◌∙◌, subst, arith}
use Rattle.std.proofs.lemmas.List.Elements.{All-append, All-cons, All-nil}
use Rattle.batch_backend.specs.Batches.{Pending, is_any}
use Rattle.batch_backend.specs.Closes.{Times, IsSince, IsPutAt, IsYoung}
use Rattle.batch_backend.specs.declared.limits.Limits.{Limits}
use Rattle.front_base.specs.Line.{Line}
use Rattle.front_ports.specs.Told.{Grows}
use Rattle.queue_drain.specs.Turns.{IsTurn, IsTimely, WaitsInTime, Turned}

turn_more : (ts us : List ℕ) (m : ℕ) → IsTurn ts m → IsTurn (ts ++ us) m
turn_more [] us m h = absurd h
turn_more (t ∷ ts) us m (inl e) = inl e
turn_more (t ∷ ts) us m (inr h) = inr (turn_more ts us m h)

turn_last : (ts : List ℕ) (m : ℕ) → IsTurn (ts ++ m ∷ []) m
turn_last [] m = inl refl
turn_last (t ∷ ts) m = inr (turn_last ts m)

turn_below : (ts : List ℕ) (last m : ℕ) → All (λ turn. turn ≤ last) ts → IsTurn ts m → m ≤ last
turn_below [] last m all h = absurd h
turn_below (t ∷ ts) last m all (inl e) = subst (λ (n : ℕ). n ≤ last) e (all zero m (omega arith))
turn_below (t ∷ ts) last m all (inr h) = turn_below ts last m (λ i d lt. all (suc i) d (omega (arith, lt))) h

-- the moments that a clock gave
given_more : (a b : Option (List ℕ)) (turns : List ℕ) (moment now : ℕ) → Grows a b (moment ∷ []) → moment ≡ now
    → IfSome a (λ moments. moments ≡ turns) → IfSome b (λ moments. moments ≡ turns ++ now ∷ [])
given_more a None turns moment now g e h = tt
given_more None (Some ys) turns moment now g e h = absurd (cc g)
given_more (Some xs) (Some ys) turns moment now g e h =
    g ∙ (ap (λ l. l ++ moment ∷ []) h ∙ ap (λ (m : ℕ). turns ++ m ∷ []) e)

first_more : (xs ys : List ℕ) (began : ℕ) → take 1 xs ≡ began ∷ [] → take 1 (xs ++ ys) ≡ began ∷ []
first_more [] ys began h = absurd (cc h)
first_more (x ∷ xs) ys began h = h

latest_more : (turns : List ℕ) (last now : ℕ) → last ≤ now → All (λ turn. turn ≤ last) turns → All (λ turn. turn ≤ now) (turns ++ now ∷ [])
latest_more turns last now le all =
    All-append (λ (turn : ℕ). turn ≤ now) turns (now ∷ [])
    (λ i d lt. let a : get_or turns i d ≤ last = all i d lt in omega (arith, a, le))
    (All-cons (λ (turn : ℕ). turn ≤ now) now [] (omega arith) (All-nil (λ (turn : ℕ). turn ≤ now)))

-- what was put in time stays so, at a later turn
timely_more : (limits : Limits) (turns : List ℕ) (last now : ℕ) (t : Times) → last ≤ now → All (λ turn. turn ≤ last) turns
    → IsTimely limits turns t → IsTimely limits (turns ++ now ∷ []) t
timely_more limits turns last now t le all h =
    let below = turn_below turns last t.put all h.put in
    let P : ℕ → Type 0 = λ turn. turn < t.put → turn - t.since < max limits.wait 1 in
    record {
      taken = turn_more turns (now ∷ []) t.since h.taken;
      put = turn_more turns (now ∷ []) t.put h.put;
      after = h.after;
      young = All-append P turns (now ∷ []) h.young (All-cons P now [] (λ lt. absurd (omega (arith, lt, below, le))) (All-nil P));
    }

all_timely_more : (limits : Limits) (turns : List ℕ) (last now : ℕ) (ts : List Times) → last ≤ now → All (λ turn. turn ≤ last) turns
    → All (IsTimely limits turns) ts → All (IsTimely limits (turns ++ now ∷ [])) ts
all_timely_more limits turns last now ts le all h =
    λ i d lt. timely_more limits turns last now (get_or ts i d) le all (h i d lt)

-- no turn so far was as late as this wait asks
young_before : (limits : Limits) (turns : List ℕ) (last now since put : ℕ) → put ≡ now → last ≤ now → All (λ turn. turn ≤ last) turns
    → last - since < max limits.wait 1 → All (λ turn. turn < put → turn - since < max limits.wait 1) (turns ++ now ∷ [])
young_before limits turns last now since put e le all young =
    let P : ℕ → Type 0 = λ turn. turn < put → turn - since < max limits.wait 1 in
    All-append P turns (now ∷ [])
    (λ i d lt. λ before. let a : get_or turns i d ≤ last = all i d lt in omega (arith, a, young))
    (All-cons P now [] (λ before. absurd (omega (arith, before, e))) (All-nil P))

-- what is put at this turn is put in time
timely_now : (limits : Limits) (turns : List ℕ) (last now : ℕ) (p : Pending) (t : Times) → last ≤ now → All (λ turn. turn ≤ last) turns
    → WaitsInTime limits turns last p.lines p.since → IsPutAt now p t → IsTimely limits (turns ++ now ∷ []) t
timely_now limits turns last now p t le all w (e, inl s) = record {
  taken = subst (IsTurn (turns ++ now ∷ [])) (sym s) (turn_last turns now);
  put = subst (IsTurn (turns ++ now ∷ [])) (sym e) (turn_last turns now);
  after = omega (arith, e, s);
  young = young_before limits turns last now t.since t.put e le all (omega (arith, s, le));
}
timely_now limits turns last now p t le all w (e, inr s) =
    let before = w.after s.0 in
    let young = w.young s.0 in
    record {
      taken = subst (IsTurn (turns ++ now ∷ [])) (sym s.1) (turn_more turns (now ∷ []) p.since (w.taken s.0));
      put = subst (IsTurn (turns ++ now ∷ [])) (sym e) (turn_last turns now);
      after = omega (arith, e, s.1, before, le);
      young = young_before limits turns last now t.since t.put e le all
          (subst (λ (n : ℕ). last - n < max limits.wait 1) (sym s.1) young);
    }

-- one turn more, at which these batches were put
pub turned_more : (limits : Limits) (began last now moment : ℕ) (a b : Option (List ℕ)) (turns : List ℕ) (p : Pending) (times more : List Times)
    → last ≤ now → Grows a b (moment ∷ []) → moment ≡ now → WaitsInTime limits turns last p.lines p.since → All (IsPutAt now p) more
    → Turned limits began last a turns times → Turned limits began now b (turns ++ now ∷ []) (times ++ more)
turned_more limits began last now moment a b turns p times more le g e w put t = record {
  given_are = given_more a b turns moment now g e t.given_are;
  first = first_more turns (now ∷ []) began t.first;
  last_is = turn_last turns now;
  latest = latest_more turns last now le t.latest;
  timely = All-append (IsTimely limits (turns ++ now ∷ [])) times more
      (all_timely_more limits turns last now times le t.latest t.timely)
      (λ i d lt. timely_now limits turns last now p (get_or more i d) le t.latest w (put i d lt));
}

-- what waits then
waits_by : (turns : List ℕ) (last now : ℕ) (p : Pending) (since : ℕ) → last ≤ now → (limits : Limits) → WaitsInTime limits turns last p.lines p.since
    → IsSince now p since → IsTurn (turns ++ now ∷ []) since × (since ≤ now)
waits_by turns last now p since le limits w (inl e) =
    (subst (IsTurn (turns ++ now ∷ [])) (sym e) (turn_last turns now), omega (arith, e))
waits_by turns last now p since le limits w (inr e) =
    let before = w.after e.0 in (
      subst (IsTurn (turns ++ now ∷ [])) (sym e.1) (turn_more turns (now ∷ []) p.since (w.taken e.0)),
      omega (arith, e.1, before, le),
    )

pub waits_more : (limits : Limits) (turns : List ℕ) (last now : ℕ) (p q : Pending) → last ≤ now → WaitsInTime limits turns last p.lines p.since
    → (is_any q.lines ≡ true → IsSince now p q.since) → IsYoung limits now q → WaitsInTime limits (turns ++ now ∷ []) now q.lines q.since
waits_more limits turns last now p q le w since young = record {
  taken = λ any. (waits_by turns last now p q.since le limits w (since any)).0;
  after = λ any. (waits_by turns last now p q.since le limits w (since any)).1;
  young = young;
}

-- the first turn
pub turned_first : (limits : Limits) (began : ℕ) (a b : Option (List ℕ)) → Grows a b (began ∷ []) → IfSome a (λ moments. moments ≡ [])
    → Turned limits began began b (began ∷ []) []
turned_first limits began a b g h = record {
  given_are = given_more a b [] began began g refl h;
  first = refl;
  last_is = inl refl;
  latest = All-cons (λ (turn : ℕ). turn ≤ began) began [] (omega arith) (All-nil (λ (turn : ℕ). turn ≤ began));
  timely = All-nil (IsTimely limits (began ∷ []));
}
