-- Tries that end for their number, their bytes or their age.
use Rattle.std.proofs.Common.{◌≡◌, ◌+◌, ◌-◌, ◌<◌, ◌≤◌, max, ℕ, List, [], ◌∷◌, ◌++◌, length, length-append, append-nil, append_assoc, refl, sym, ap, ◌∙◌, subst, arith, inl, inr, All, Bool, true, false, ◌||◌, ◌&&◌, nat_le, Some, None, Option}
use Rattle.std.specs.Prelude.{if◌then◌else◌}
use Rattle.std.proofs.lemmas.Bool.Decides.{nat_tests}
use Rattle.std.proofs.lemmas.List.Elements.{All-append, All-cons, All-nil}
use Rattle.front_base.specs.Line.{Line}
use Rattle.truncate_backend.specs.Tries.{Try}
use Rattle.batch_backend.specs.Batches.{Pending, Move, is_any, is_due, is_over, is_whole, since_of, after_pop, add_line}
use Rattle.batch_backend.specs.Closes.{Times, carries_over, is_full_before, first_lines, EndsFor, AllEnd, AllButLastEnd, IsSince, IsPutAt, IsYoung, EndsAt}
use Rattle.batch_backend.specs.declared.limits.Limits.{Limits}

or_left : (a b : Bool) → a ≡ true → (a || b) ≡ true
or_left true b h = refl
or_left false b h = cc

or_right : (a b : Bool) → b ≡ true → (a || b) ≡ true
or_right true b h = refl
or_right false b h = h

or_none : (a : Bool) → (a || false) ≡ true → a ≡ true
or_none true h = refl
or_none false h = h

and_first : (a b : Bool) → (a && b) ≡ true → a ≡ true
and_first true b h = refl
and_first false b h = cc

and_second : (a b : Bool) → (a && b) ≡ true → b ≡ true
and_second true b h = h
and_second false b h = cc

-- ---- more lines follow, and one try more

full_grows : (limits : Limits) (lines next more : List Line) → is_full_before limits lines next ≡ true
    → is_full_before limits lines (next ++ more) ≡ true
full_grows limits lines [] more h =
    or_left (is_whole limits lines) (carries_over limits lines more) (or_none (is_whole limits lines) h)
full_grows limits lines (x ∷ next) more h = h

end_grows : (limits : Limits) (lines : List Line) (m : Times) (next more : List Line) → EndsFor limits lines m next
    → EndsFor limits lines m (next ++ more)
end_grows limits lines m next more (inl f) = inl (full_grows limits lines next more f)
end_grows limits lines m next more (inr a) = inr a

all_grow : (limits : Limits) (ts : List Try) (ms : List Times) (next more : List Line) → AllEnd limits ts ms next
    → AllEnd limits ts ms (next ++ more)
all_grow limits [] [] next more h = tt
all_grow limits [] (m ∷ ms) next more h = absurd h
all_grow limits (t ∷ ts) [] next more h = absurd h
all_grow limits (t ∷ []) (m ∷ ms) next more h = (end_grows limits t.lines m next more h.0, all_grow limits [] ms next more h.1)
all_grow limits (t ∷ u ∷ us) (m ∷ ms) next more h = (h.0, all_grow limits (u ∷ us) ms next more h.1)

-- before the lines of one try more
end_same : (limits : Limits) (lines : List Line) (m : Times) (next own : List Line) → own ≡ next → EndsFor limits lines m next
    → EndsFor limits lines m own
end_same limits lines m next own e h = subst (λ (l : List Line). EndsFor limits lines m l) (sym e) h

all_put : (limits : Limits) (ts : List Try) (ms : List Times) (lines next : List Line) (t : Try) (m : Times) → t.lines ≡ lines
    → EndsFor limits t.lines m next → AllEnd limits ts ms lines → AllEnd limits (ts ++ t ∷ []) (ms ++ m ∷ []) next
all_put limits [] [] lines next t m e f h = (f, tt)
all_put limits [] (n ∷ ns) lines next t m e f h = absurd h
all_put limits (u ∷ us) [] lines next t m e f h = absurd h
all_put limits (u ∷ []) (n ∷ ns) lines next t m e f h =
    (end_same limits u.lines n lines t.lines e h.0, all_put limits [] ns lines next t m e f h.1)
all_put limits (u ∷ v ∷ vs) (n ∷ ns) lines next t m e f h = (h.0, all_put limits (v ∷ vs) ns lines next t m e f h.1)

pub but_last : (limits : Limits) (ts : List Try) (ms : List Times) (next : List Line) → AllEnd limits ts ms next
    → AllButLastEnd limits ts ms
but_last limits [] [] next h = tt
but_last limits [] (m ∷ ms) next h = absurd h
but_last limits (t ∷ ts) [] next h = absurd h
but_last limits (t ∷ []) (m ∷ []) next h = tt
but_last limits (t ∷ []) (m ∷ n ∷ ms) next h = absurd h.1
but_last limits (t ∷ u ∷ us) (m ∷ []) next h = absurd h.1
but_last limits (t ∷ u ∷ us) (m ∷ n ∷ ms) next h = (h.0, but_last limits (u ∷ us) (n ∷ ms) next h.1)

pub but_last_put : (limits : Limits) (ts : List Try) (ms : List Times) (lines : List Line) (t : Try) (m : Times) → t.lines ≡ lines
    → AllEnd limits ts ms lines → AllButLastEnd limits (ts ++ t ∷ []) (ms ++ m ∷ [])
but_last_put limits [] [] lines t m e h = tt
but_last_put limits [] (n ∷ ns) lines t m e h = absurd h
but_last_put limits (u ∷ us) [] lines t m e h = absurd h
but_last_put limits (u ∷ []) (n ∷ []) lines t m e h = (end_same limits u.lines n lines t.lines e h.0, tt)
but_last_put limits (u ∷ []) (n ∷ o ∷ os) lines t m e h = absurd h.1
but_last_put limits (u ∷ v ∷ vs) (n ∷ []) lines t m e h = absurd h.1
but_last_put limits (u ∷ v ∷ vs) (n ∷ o ∷ os) lines t m e h = (h.0, but_last_put limits (v ∷ vs) (o ∷ os) lines t m e h.1)

-- ---- moments

none_any : is_any [] ≡ true → ⊥
none_any h = cc

-- the moments of a put
abbrev pub time_of : ℕ → Pending → Times
time_of now p = record { since = since_of now p; put = now }

since_by : (now : ℕ) (p : Pending) (b : Bool) → is_any p.lines ≡ b → IsSince now p (if b then p.since else now)
since_by now p true e = inr (e, refl)
since_by now p false e = inl refl

pub since_is : (now : ℕ) (p : Pending) → IsSince now p (since_of now p)
since_is now p = since_by now p (is_any p.lines) refl

-- what waited later waited before, or was taken at the same moment
pub since_on : (now : ℕ) (p q : Pending) (since : ℕ) → (is_any q.lines ≡ true → IsSince now p q.since) → IsSince now q since
    → IsSince now p since
since_on now p q since h (inl e) = inl e
since_on now p q since h (inr e) = subst (IsSince now p) (sym e.1) (h e.0)

pub put_on : (now : ℕ) (p q : Pending) → (is_any q.lines ≡ true → IsSince now p q.since) → (ms : List Times) → All (IsPutAt now q) ms
    → All (IsPutAt now p) ms
put_on now p q h ms all = λ i d lt. let a = all i d lt in (a.0, since_on now p q _ h a.1)

some_since : (now : ℕ) (p : Pending) (b : Bool) → is_any p.lines ≡ b → b ≡ true → (if b then p.since else now) ≡ p.since
some_since now p true e h = refl
some_since now p false e h = cc

over_wait : (wait passed : ℕ) → nat_le wait passed ≡ true → wait ≤ passed
over_wait wait passed h = grind (arith, nat_tests)

waited : (limits : Limits) (now : ℕ) (p : Pending) → is_due limits now p ≡ true → limits.wait ≤ now - since_of now p
waited limits now p h =
    let any = and_first (is_any p.lines) _ h in
    let old = and_second (is_any p.lines) _ h in
    let same : since_of now p ≡ p.since = some_since now p (is_any p.lines) refl any in
    let long : limits.wait ≤ now - p.since = over_wait limits.wait (now - p.since) old in
    subst (λ (n : ℕ). limits.wait ≤ now - n) (sym same) long

-- ---- what a line that was popped does

-- the try of these lines ends before what is left, or none is made
abbrev pub EndTry : Limits → ℕ → Pending → List Line → List Line → Type 0
EndTry limits now p put left =
    (before : List Try) (earlier : List Times) (t : Try) → t.lines ≡ put → AllEnd limits before earlier p.lines
    → AllEnd limits (before ++ t ∷ []) (earlier ++ time_of now p ∷ []) left

abbrev pub EndBy : Limits → ℕ → Pending → List Line → Pending → Type 0
EndBy limits now p [] q = EndsAt limits now p [] q
EndBy limits now p (l ∷ ls) q = EndTry limits now p (l ∷ ls) q.lines × (is_any q.lines ≡ true → IsSince now p q.since)

by_try : (limits : Limits) (now : ℕ) (p q : Pending) (put : List Line) → 0 < length put → EndTry limits now p put q.lines
    → (is_any q.lines ≡ true → IsSince now p q.since) → EndBy limits now p put q
by_try limits now p q [] s f g = absurd (omega arith)
by_try limits now p q (l ∷ ls) s f g = (f, g)

none_more : (limits : Limits) (ts : List Try) (ms : List Times) (next : List Line) → AllEnd limits ts ms next
    → AllEnd limits (ts ++ []) (ms ++ []) next
none_more limits ts ms next h =
    subst (λ (z : List Try × List Times). AllEnd limits z.0 z.1 next) (λ i. (sym (append-nil ts) i, sym (append-nil ms) i)) h

-- no try was made, and these lines more wait
pub none_ends : (limits : Limits) (now : ℕ) (p q : Pending) (more : List Line) → q.lines ≡ p.lines ++ more
    → (is_any q.lines ≡ true → IsSince now p q.since) → EndsAt limits now p [] q
none_ends limits now p q more e s = record {
  times = [];
  put = All-nil (IsPutAt now p);
  ends = λ before earlier h.
      subst (λ (z : List Line). AllEnd limits (before ++ []) (earlier ++ []) z) (sym e)
      (none_more limits before earlier (p.lines ++ more) (all_grow limits before earlier p.lines more h));
  since = s;
}

-- nothing changed
pub same_ends : (limits : Limits) (now : ℕ) (p : Pending) → EndsAt limits now p [] p
same_ends limits now p = none_ends limits now p p [] (sym (append-nil p.lines)) (λ h. inr (h, refl))

-- one try was made
pub one_ends : (limits : Limits) (now : ℕ) (p q : Pending) (t : Try) (put : List Line) → t.lines ≡ put → EndTry limits now p put q.lines
    → (is_any q.lines ≡ true → IsSince now p q.since) → EndsAt limits now p (t ∷ []) q
one_ends limits now p q t put e f s = record {
  times = time_of now p ∷ [];
  put = All-cons (IsPutAt now p) (time_of now p) [] (refl, since_is now p) (All-nil (IsPutAt now p));
  ends = λ before earlier h. f before earlier t e h;
  since = s;
}

abbrev whole_move : ℕ → Pending → Line → Move
whole_move now p x = record { put = p.lines ++ x ∷ []; left = record { lines = []; since = since_of now p } }

abbrev part_move : ℕ → Pending → Line → Move
part_move now p x = record { put = []; left = record { lines = p.lines ++ x ∷ []; since = since_of now p } }

abbrev alone_move : ℕ → Pending → Line → Move
alone_move now p x = record { put = p.lines; left = record { lines = x ∷ []; since = now } }

added_ends : (limits : Limits) (now : ℕ) (p : Pending) (x : Line) (b : Bool) → is_whole limits (p.lines ++ x ∷ []) ≡ b
    → EndBy limits now p (if b then whole_move now p x else part_move now p x).put
    (if b then whole_move now p x else part_move now p x).left
added_ends limits now p x true e =
    let l = length-append p.lines (x ∷ []) in
    by_try limits now p (whole_move now p x).left (p.lines ++ x ∷ []) (omega arith)
    (λ before earlier t same a.
    all_put limits before earlier (p.lines ++ x ∷ []) [] t (time_of now p) same
    (inl (subst (λ (z : List Line). is_full_before limits z [] ≡ true) (sym same) (or_left (is_whole limits (p.lines ++ x ∷ [])) false e)))
    (all_grow limits before earlier p.lines (x ∷ []) a))
    (λ h. absurd (none_any h))
added_ends limits now p x false e =
    none_ends limits now p (part_move now p x).left (x ∷ []) refl (λ h. since_is now p)

some_lines : (lines : List Line) → is_any lines ≡ true → 0 < length lines
some_lines [] h = cc
some_lines (l ∷ ls) h = omega arith

over_ends : (limits : Limits) (now : ℕ) (p : Pending) (x : Line) (b : Bool) → is_over limits p x ≡ b
    → EndBy limits now p (if b then alone_move now p x else add_line limits now p x).put
    (if b then alone_move now p x else add_line limits now p x).left
over_ends limits now p x true e =
    by_try limits now p (alone_move now p x).left p.lines (some_lines p.lines (and_first (is_any p.lines) _ e))
    (λ before earlier t same a.
    all_put limits before earlier p.lines (x ∷ []) t (time_of now p) same
    (inl (subst (λ (z : List Line). is_full_before limits z (x ∷ []) ≡ true) (sym same)
    (or_right (is_whole limits p.lines) _ (and_second (is_any p.lines) _ e)))) a)
    (λ h. inl refl)
over_ends limits now p x false e = added_ends limits now p x (is_whole limits (p.lines ++ x ∷ [])) refl

pub popped_ends : (limits : Limits) (now : ℕ) (p : Pending) (x : Line)
    → EndBy limits now p (after_pop limits now p (Some x)).put (after_pop limits now p (Some x)).left
popped_ends limits now p x = over_ends limits now p x (is_over limits p x) refl

-- what has waited is put
pub due_ends : (limits : Limits) (now : ℕ) (p : Pending) → is_due limits now p ≡ true → EndTry limits now p p.lines []
due_ends limits now p due =
    λ before earlier t same a. all_put limits before earlier p.lines [] t (time_of now p) same (inr (waited limits now p due)) a

-- one after another
pub ends_then : (limits : Limits) (now : ℕ) (p q r : Pending) (ts us : List Try) → EndsAt limits now p ts q → EndsAt limits now q us r
    → EndsAt limits now p (ts ++ us) r
ends_then limits now p q r ts us a b = record {
  times = a.times ++ b.times;
  put = All-append (IsPutAt now p) a.times b.times a.put (put_on now p q a.since b.times b.put);
  ends = λ before earlier h.
      subst (λ (z : List Try × List Times). AllEnd limits z.0 z.1 r.lines)
      (λ i. (append_assoc before ts us i, append_assoc earlier a.times b.times i))
      (b.ends (before ++ ts) (earlier ++ a.times) (a.ends before earlier h));
  since = λ h. since_on now p q r.since a.since (b.since h);
}

-- ---- what waits is young

and_none : (a b : Bool) → (a && b) ≡ false → a ≡ true → b ≡ false
and_none true b h e = h
and_none false b h e = cc

below_wait : (wait passed : ℕ) → nat_le wait passed ≡ false → passed < wait
below_wait wait passed h = grind (arith, nat_tests)

not_waited : (limits : Limits) (now : ℕ) (p : Pending) → is_due limits now p ≡ false → is_any p.lines ≡ true
    → now - p.since < limits.wait
not_waited limits now p due any = below_wait limits.wait (now - p.since) (and_none (is_any p.lines) _ due any)

young_by : (limits : Limits) (now : ℕ) (p : Pending) (b : Bool) → is_any p.lines ≡ b → is_due limits now p ≡ false
    → now - (if b then p.since else now) < max limits.wait 1
young_by limits now p true e due = let lt = not_waited limits now p due e in omega (arith, lt)
young_by limits now p false e due = omega arith

added_young : (limits : Limits) (now : ℕ) (p : Pending) (x : Line) (b : Bool) → is_due limits now p ≡ false
    → IsYoung limits now (if b then whole_move now p x else part_move now p x).left
added_young limits now p x true due = λ h. absurd (none_any h)
added_young limits now p x false due = λ h. young_by limits now p (is_any p.lines) refl due

over_young : (limits : Limits) (now : ℕ) (p : Pending) (x : Line) (b : Bool) → is_due limits now p ≡ false
    → IsYoung limits now (if b then alone_move now p x else add_line limits now p x).left
over_young limits now p x true due = λ h. omega arith
over_young limits now p x false due = added_young limits now p x (is_whole limits (p.lines ++ x ∷ [])) due

pub popped_young : (limits : Limits) (now : ℕ) (p : Pending) (line : Option Line) → is_due limits now p ≡ false
    → IsYoung limits now (after_pop limits now p line).left
popped_young limits now p None due = λ h. let lt = not_waited limits now p due h in omega (arith, lt)
popped_young limits now p (Some x) due = over_young limits now p x (is_over limits p x) due

pub put_young : (limits : Limits) (now since : ℕ) → IsYoung limits now (record { lines = []; since = since })
put_young limits now since = λ h. absurd (none_any h)
