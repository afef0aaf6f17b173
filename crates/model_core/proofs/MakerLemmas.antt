-- How many exchanges made the change at a place, when changes or exchanges come.
use Rattle.std.proofs.Common.{◌≡◌, ℕ, zero, suc, ◌+◌, ◌<◌, ◌≤◌, Bool, true, false, not, ◌&&◌, ◌||◌, List, [], ◌∷◌, ◌++◌, length, take, Option, Some, None, refl, ap, sym, ◌∙◌, get_or, length-append, replicate, arith}
use Rattle.std.proofs.lemmas.Bool.Decides.{nat_tests}
use Rattle.std.proofs.lemmas.List.{take-append-le, take_at, take_all}
use Rattle.std.specs.Prelude.{if◌then◌else◌, is_none, nat_lt, ◌==◌, slice_set, IfSome}
use Rattle.apiservice_table.specs.declared.change.Change.{Change}
use Rattle.apiservice_table.specs.declared.change.ChangeFault.{ChangeFault}
use Rattle.audit_core.specs.Offers.{has_refused}
use Rattle.model_core.proofs.ExchangeLemmas.{BayOk}
use Rattle.model_core.proofs.Logic.{both, no_case, and_first}
use Rattle.model_core.specs.Exchanges.{AreSettled, SettledSoFar}
use Rattle.model_core.specs.Makers.{is_accepted, makes, one_if, closed_makers, open_makers, bay_makers, makers}
use Rattle.model_worlds.specs.Setup.{Setup}
use Rattle.model_worlds.specs.Steps
use Rattle.model_worlds.specs.declared.state.Bay.{Bay}
use Rattle.model_worlds.specs.declared.state.Exchange.{Exchange}
use Rattle.model_worlds.specs.declared.state.Open.{Open}

-- ---- changes that come later

makes-more : (setup : Setup) (ch more : List Change) (place : ℕ) (x : Exchange) → x.seen ≤ length ch
    → makes setup (ch ++ more) place x ≡ makes setup ch place x
makes-more setup ch more place x h =
    ap (λ t. (x.seen == place) && is_accepted setup t x.asked) (take-append-le x.seen ch more h)

pub closed-more : (setup : Setup) (ch more : List Change) (place : ℕ) (xs : List Exchange) → AreSettled setup ch xs
    → closed_makers setup (ch ++ more) place xs ≡ closed_makers setup ch place xs
closed-more setup ch more place [] h = refl
closed-more setup ch more place (x ∷ xs) h =
    both
    (λ (b : Bool) (n : ℕ). one_if (not (has_refused setup.set x.notes) && b) + n)
    (makes-more setup ch more place x h.0.seen)
    (closed-more setup ch more place xs h.1)

open-more : (setup : Setup) (ch more : List Change) (place : ℕ) (o : Option Open) → IfSome o (SettledSoFar setup ch)
    → open_makers setup (ch ++ more) place o ≡ open_makers setup ch place o
open-more setup ch more place None h = refl
open-more setup ch more place (Some o) h =
    ap (λ b. one_if (o.phase.decided && b)) (makes-more setup ch more place o.exchange h.seen)

pub bay_makers-more : (setup : Setup) (ch more : List Change) (place : ℕ) (b : Bay) → BayOk setup ch b
    → bay_makers setup (ch ++ more) place b ≡ bay_makers setup ch place b
bay_makers-more setup ch more place b h =
    both (λ (m : ℕ) (n : ℕ). m + n) (closed-more setup ch more place b.closed h.closed) (open-more setup ch more place b.current h.current)

pub makers-more : (setup : Setup) (ch more : List Change) (place : ℕ) (bs : List Bay)
    → ((j : ℕ) → BayOk setup ch (get_or bs j Steps.start_bay))
    → makers setup (ch ++ more) place bs ≡ makers setup ch place bs
makers-more setup ch more place [] h = refl
makers-more setup ch more place (b ∷ bs) h =
    both (λ (m : ℕ) (n : ℕ). m + n) (bay_makers-more setup ch more place b (h 0))
    (makers-more setup ch more place bs (λ j. h (suc j)))

-- ---- one bay in the place of another

swap_first : (a b t : ℕ) → (a + t) + b ≡ (b + t) + a
swap_first a b t = omega arith

swap_rest : (a s t u v : ℕ) → s + u ≡ t + v → (a + s) + u ≡ (a + t) + v
swap_rest a s t u v e = omega arith

pub makers-set : (setup : Setup) (ch : List Change) (place : ℕ) (bs : List Bay) (i : ℕ) (b : Bay) → i < length bs
    → makers setup ch place (slice_set bs i b) + bay_makers setup ch place (get_or bs i Steps.start_bay)
    ≡ makers setup ch place bs + bay_makers setup ch place b
makers-set setup ch place [] i b h = absurd (no_place i h)
  where
    no_place : (i : ℕ) → i < 0 → ⊥
    no_place i h = omega arith
makers-set setup ch place (c ∷ bs) zero b h =
    swap_first (bay_makers setup ch place b) (bay_makers setup ch place c) (makers setup ch place bs)
makers-set setup ch place (c ∷ bs) (suc i) b h =
    swap_rest (bay_makers setup ch place c) _ _ _ _ (makers-set setup ch place bs i b (below i (length bs) h))
  where
    below : (i n : ℕ) → suc i < suc n → i < n
    below i n h = omega arith

-- ---- an exchange that is over

nothing_asked : (a at : Bool) → one_if (a && (at && false)) ≡ 0
nothing_asked true true = refl
nothing_asked true false = refl
nothing_asked false at = refl

-- it counts the same when it is over: its change was decided unless a strict sink failed
over_at : (setup : Setup) (before : List Change) (asked : Option Change) (found failed decided at : Bool)
    → (decided ≡ true → failed ≡ false) → (failed || (found && (is_none asked || decided))) ≡ true
    → one_if (not failed && (at && is_accepted setup before asked))
    ≡ one_if (decided && (at && is_accepted setup before asked))
over_at setup before None found failed decided at k h =
    nothing_asked (not failed) at ∙ sym (nothing_asked decided at)
over_at setup before (Some change) found true true at k h = no_case true (k refl) refl
over_at setup before (Some change) found true false at k h = refl
over_at setup before (Some change) found false true at k h = refl
over_at setup before (Some change) true false false at k h = no_case false refl h
over_at setup before (Some change) false false false at k h = no_case false refl h

over : (setup : Setup) (ch : List Change) (place : ℕ) (o : Open) → SettledSoFar setup ch o → o.phase.finished ≡ true
    → one_if (not (has_refused setup.set o.exchange.notes) && makes setup ch place o.exchange)
    ≡ one_if (o.phase.decided && makes setup ch place o.exchange)
over setup ch place o h f =
    ap (λ b. one_if (not b && makes setup ch place o.exchange)) (sym h.failed)
    ∙ over_at setup (take o.exchange.seen ch) o.exchange.asked o.phase.found o.phase.failed o.phase.decided
    (o.exchange.seen == place) h.kept (h.finished f).decided

closed-push : (setup : Setup) (ch : List Change) (place : ℕ) (xs : List Exchange) (x : Exchange)
    → closed_makers setup ch place (xs ++ x ∷ [])
    ≡ closed_makers setup ch place xs + one_if (not (has_refused setup.set x.notes) && makes setup ch place x)
closed-push setup ch place [] x = omega arith
closed-push setup ch place (y ∷ xs) x =
    later (one_if (not (has_refused setup.set y.notes) && makes setup ch place y)) _ _ _ (closed-push setup ch place xs x)
  where
    later : (a s t u : ℕ) → s ≡ t + u → a + s ≡ (a + t) + u
    later a s t u e = omega arith

no_open : (n m : ℕ) → n ≡ m → n + 0 ≡ m
no_open n m e = omega arith

closing_makers : (setup : Setup) (ch : List Change) (place : ℕ) (b : Bay) (o : Open) (c : Bool)
    → (c ≡ true → o.phase.finished ≡ true) → SettledSoFar setup ch o
    → bay_makers setup ch place (if c then record b { closed = b.closed ++ o.exchange ∷ []; current = None } else record b { current = Some o })
    ≡ closed_makers setup ch place b.closed + open_makers setup ch place (Some o)
closing_makers setup ch place b o true f h =
    no_open _ _
    (closed-push setup ch place b.closed o.exchange
    ∙ ap (λ n. closed_makers setup ch place b.closed + n) (over setup ch place o h (f refl)))
closing_makers setup ch place b o false f h = refl

pub settled_makers : (setup : Setup) (ch : List Change) (place : ℕ) (b : Bay) (o : Open) → SettledSoFar setup ch o
    → bay_makers setup ch place (Steps.settled b o)
    ≡ closed_makers setup ch place b.closed + open_makers setup ch place (Some o)
settled_makers setup ch place b o h =
    closing_makers setup ch place b o (o.phase.finished && Steps.no_wait o.waiting)
    (λ q. and_first o.phase.finished (Steps.no_wait o.waiting) q) h

-- ---- one exchange that isn't over

-- the bay with its exchange replaced by one that counts the same
pub makers_with : (setup : Setup) (ch : List Change) (place : ℕ) (b : Bay) (o p : Open) → b.current ≡ Some o
    → open_makers setup ch place (Some p) ≡ open_makers setup ch place (Some o)
    → closed_makers setup ch place b.closed + open_makers setup ch place (Some p) ≡ bay_makers setup ch place b
makers_with setup ch place b o p e q =
    ap (λ n. closed_makers setup ch place b.closed + n) q
    ∙ ap (λ c. closed_makers setup ch place b.closed + open_makers setup ch place c) (sym e)

-- one that was not decided makes no change
pub undecided_makes : (setup : Setup) (ch : List Change) (place : ℕ) (o p : Open) → o.phase.decided ≡ false
    → p.phase.decided ≡ false → open_makers setup ch place (Some p) ≡ open_makers setup ch place (Some o)
undecided_makes setup ch place o p d e =
    ap (λ c. one_if (c && makes setup ch place p.exchange)) e
    ∙ sym (ap (λ c. one_if (c && makes setup ch place o.exchange)) d)

-- ---- a change that is decided

one_more_place : (n place : ℕ) (c : ℕ)
    → (c + one_if ((n == place) && true)) + one_if (nat_lt place n) ≡ (c + 0) + one_if (nat_lt place (n + 1))
one_more_place n place c = cases (n == place) refl (nat_lt place n) refl (nat_lt place (n + 1)) refl
  where
    cases : (a : Bool) → (n == place) ≡ a → (b : Bool) → nat_lt place n ≡ b → (d : Bool) → nat_lt place (n + 1) ≡ d
        → (c + one_if (a && true)) + one_if b ≡ (c + 0) + one_if d
    cases true p true q d r = absurd (grind (arith, nat_tests))
    cases true p false q true r = omega arith
    cases true p false q false r = absurd (grind (arith, nat_tests))
    cases false p true q true r = omega arith
    cases false p true q false r = absurd (grind (arith, nat_tests))
    cases false p false q true r = absurd (grind (arith, nat_tests))
    cases false p false q false r = omega arith

no_more_place : (a : Bool) (c e : ℕ) → (c + one_if (a && false)) + e ≡ (c + 0) + e
no_more_place true c e = omega arith
no_more_place false c e = omega arith

decided_at : (setup : Setup) (ch : List Change) (change : Change) (place c : ℕ) (fault : Option ChangeFault)
    → (c + one_if ((length ch == place) && is_none fault)) + one_if (nat_lt place (length ch))
    ≡ (c + 0) + one_if (nat_lt place (length (Steps.changes_with ch change fault)))
decided_at setup ch change place c None =
    one_more_place (length ch) place c
    ∙ ap (λ n. (c + 0) + one_if (nat_lt place n)) (sym (length-append ch (change ∷ [])))
decided_at setup ch change place c (Some fault) = no_more_place (length ch == place) c _

-- what was seen is all changes that were there
taken_before : (ch : List Change) (change : Change) (fault : Option ChangeFault)
    → take (length ch) (Steps.changes_with ch change fault) ≡ ch
taken_before ch change None = take_at ch (change ∷ []) (length ch) refl
taken_before ch change (Some fault) = take_all (length ch) ch (omega arith)

pub decided_makers : (setup : Setup) (ch : List Change) (place : ℕ) (b : Bay) (o : Open) (change : Change)
    → b.current ≡ Some o → o.exchange.asked ≡ Some change → o.phase.decided ≡ false
    → closed_makers setup (Steps.changes_with ch change (Steps.change_refusal setup ch change)) place b.closed
    ≡ closed_makers setup ch place b.closed
    → bay_makers setup (Steps.changes_with ch change (Steps.change_refusal setup ch change)) place
    (record b { seen = length (Steps.changes_with ch change (Steps.change_refusal setup ch change)); current = Some (Steps.decided_with (length ch) o) })
    + one_if (nat_lt place (length ch))
    ≡ bay_makers setup ch place b
    + one_if (nat_lt place (length (Steps.changes_with ch change (Steps.change_refusal setup ch change))))
decided_makers setup ch place b o change e a d closed =
    let fault = Steps.change_refusal setup ch change in
    both
    (λ (m : ℕ) (t : List Change). (m + one_if ((length ch == place) && is_accepted setup t o.exchange.asked)) + one_if (nat_lt place (length ch)))
    closed
    (taken_before ch change fault)
    ∙ ap
    (λ v. (closed_makers setup ch place b.closed + one_if ((length ch == place) && is_accepted setup ch v)) + one_if (nat_lt place (length ch)))
    a
    ∙ decided_at setup ch change place (closed_makers setup ch place b.closed) fault
    ∙ ap
    (λ n. (closed_makers setup ch place b.closed + n) + one_if (nat_lt place (length (Steps.changes_with ch change fault))))
    (sym
    (ap (λ c. open_makers setup ch place c) e
    ∙ ap (λ c. one_if (c && makes setup ch place o.exchange)) d))

pub no_makers : (setup : Setup) (place n : ℕ) → makers setup [] place (replicate n Steps.start_bay) ≡ 0
no_makers setup place zero = refl
no_makers setup place (suc n) = nothing_more _ (no_makers setup place n)
  where
    nothing_more : (m : ℕ) → m ≡ 0 → 0 + m ≡ 0
    nothing_more m e = omega arith
