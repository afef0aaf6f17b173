-- The events of a request, stage by stage: their lines, and how many of them are too large.
use Rattle.std.proofs.Common.{◌≡◌, ◌≢◌, ℕ, ◌+◌, ◌≤◌, ◌⊎◌, Bool, true, false, not, cond, if◌then◌else◌, List, [], ◌∷◌, ◌++◌, length, filter, map, refl, sym, ap, ◌∙◌, subst, inl, inr, ⊎_elim, arith, append_assoc, length-append}
use Rattle.std.proofs.lemmas.Grind.{flat_map-append}
use Rattle.std.proofs.lemmas.List.Sums.{sum_by-append}
use Rattle.std.proofs.lemmas.List.{length-map, map-append}
use Rattle.front_base.specs.Info.{is_long_running}
use Rattle.front_base.specs.declared.level.Level.{Level}
use Rattle.front_base.specs.declared.level.Level.TheVariants as level
use Rattle.front_base.specs.declared.stage.Stage.{Stage}
use Rattle.front_base.specs.declared.stage.Stage.TheVariants.{RequestReceived, ResponseStarted, ResponseComplete, Panic}
use Rattle.policy_rules.specs.declared.omit.Omit.{Omit}
use Rattle.stage_event.specs.Events.{event}
use Rattle.stage_event.specs.declared.event.Event.{Event}
use Rattle.stage_event.specs.declared.facts.Facts.{Facts}
use Rattle.truncate_backend.specs.Fits.{fitted}
use Rattle.truncate_backend.specs.declared.fitted.Fit.{Fit}
use Rattle.truncate_backend.specs.declared.fitted.Fit.TheVariants.{Whole, Stripped, TooLarge}
use Rattle.audit_core.specs.Owed.{omits, owed, owed_at, events_at, fitted_lines, lines_in, ended}
use Rattle.audit_core.specs.declared.answered.Answered.{Answered}
use Rattle.explain_run.specs.Pushing.{is_too_large, too_large, only, owed_only, with_omit, count_stages, Pushes}

-- ---- lists of one at most

abbrev pub IsOne : {A : Type 0} → List A → Type 0
IsOne {A} xs = (xs ≡ []) ⊎ ((x : A) × (xs ≡ x ∷ []))

one_if_not : (b : Bool) (stage : Stage) → IsOne (if not b then stage ∷ [] else [])
one_if_not true stage = inl refl
one_if_not false stage = inr (stage, refl)

abbrev stages_by : Bool → List Stage
stages_by long =
    if long then RequestReceived ∷ ResponseStarted ∷ ResponseComplete ∷ [] else RequestReceived ∷ ResponseComplete ∷ []

abbrev kept : Omit → Bool → List Stage
kept omit long = filter (λ stage. not (omits omit stage)) (stages_by long)

one_kept : (omit : Omit) (stage : Stage) (long : Bool) → IsOne (kept (only omit stage) long)
one_kept omit RequestReceived true = one_if_not omit.received RequestReceived
one_kept omit RequestReceived false = one_if_not omit.received RequestReceived
one_kept omit ResponseStarted true = one_if_not omit.started ResponseStarted
one_kept omit ResponseStarted false = inl refl
one_kept omit ResponseComplete true = one_if_not omit.complete ResponseComplete
one_kept omit ResponseComplete false = one_if_not omit.complete ResponseComplete
one_kept omit Panic true = inl refl
one_kept omit Panic false = inl refl

one_mapped : {A B : Type 0} (f : A → B) (xs : List A) → IsOne xs → IsOne (map f xs)
one_mapped {A} {B} f xs h =
    ⊎_elim
    (λ (e : xs ≡ []). inl (ap (map f) e))
    (λ (q : (x : A) × (xs ≡ x ∷ [])). inr (f q.0, ap (map f) q.1))
    h

one_at : (own : Level) (omit : Omit) (stage : Stage) (facts : Facts) → IsOne (owed_at own (only omit stage) facts)
one_at level.None omit stage facts = inl refl
one_at level.Metadata omit stage facts =
    one_mapped (λ s. event s level.Metadata facts) (kept (only omit stage) (is_long_running facts.info)) (one_kept omit stage (is_long_running facts.info))
one_at level.Request omit stage facts =
    one_mapped (λ s. event s level.Request facts) (kept (only omit stage) (is_long_running facts.info)) (one_kept omit stage (is_long_running facts.info))
one_at level.RequestResponse omit stage facts =
    one_mapped (λ s. event s level.RequestResponse facts) (kept (only omit stage) (is_long_running facts.info)) (one_kept omit stage (is_long_running facts.info))

pub one_owed : (omit : Omit) (stage : Stage) (x : Answered) → IsOne (owed_only omit stage x)
one_owed omit stage x = one_at x.decision.level omit stage x.facts

pub one_long : {A : Type 0} (xs : List A) → IsOne xs → length xs ≤ 1
one_long {A} xs h =
    ⊎_elim
    (λ (e : xs ≡ []). subst (λ ys. length ys ≤ 1) (sym e) (omega arith))
    (λ (q : (x : A) × (xs ≡ x ∷ [])). subst (λ ys. length ys ≤ 1) (sym q.1) (omega arith))
    h

-- ---- how many are owed

kept_count : (received started complete long : Bool)
    → length (kept (record { received = received; started = started; complete = complete }) long)
    ≡ count_stages (record { received = received; started = started; complete = complete }) long
kept_count true true true true = refl
kept_count true true true false = refl
kept_count true true false true = refl
kept_count true true false false = refl
kept_count true false true true = refl
kept_count true false true false = refl
kept_count true false false true = refl
kept_count true false false false = refl
kept_count false true true true = refl
kept_count false true true false = refl
kept_count false true false true = refl
kept_count false true false false = refl
kept_count false false true true = refl
kept_count false false true false = refl
kept_count false false false true = refl
kept_count false false false false = refl

count_at : (own : Level) (omit : Omit) (facts : Facts) → length (events_at own omit facts) ≡ count_stages omit (is_long_running facts.info)
count_at own omit facts =
    length-map (kept omit (is_long_running facts.info)) (λ s. event s own facts)
    ∙ kept_count omit.received omit.started omit.complete (is_long_running facts.info)

pub count_owed : (own : Level) (omit : Omit) (facts : Facts) → own ≢ level.None
    → length (owed_at own omit facts) ≡ count_stages omit (is_long_running facts.info)
count_owed level.None omit facts h = absurd (h refl)
count_owed level.Metadata omit facts h = count_at level.Metadata omit facts
count_owed level.Request omit facts h = count_at level.Request omit facts
count_owed level.RequestResponse omit facts h = count_at level.RequestResponse omit facts

-- ---- what is added of one event at most says whether it is too large

abbrev text : ℕ → ℕ → List Event → List ℕ
text max end events = ended end (fitted_lines max events)

some_line : (line : List ℕ) (end : ℕ) → length ((line ++ end ∷ []) ++ []) ≢ 0
some_line line end h = let a = length-append (line ++ end ∷ []) [] in let b = length-append line (end ∷ []) in absurd (omega (arith, a, b, h))

module _ (max end : ℕ) (own : Event) where
  no_line : (fit : Fit) → fitted own max ≡ fit → length (ended end (lines_in fit ++ [])) ≡ 0 → 1 ≡ 0 + cond (is_too_large fit) 1 0
  no_line (Whole line) e h = absurd (some_line line end h)
  no_line (Stripped line) e h = absurd (some_line line end h)
  no_line (TooLarge size) e h = refl

  has_line : (fit : Fit) → fitted own max ≡ fit → length (ended end (lines_in fit ++ [])) ≢ 0 → 0 ≡ 0 + cond (is_too_large fit) 1 0
  has_line (Whole line) e h = refl
  has_line (Stripped line) e h = refl
  has_line (TooLarge size) e h = absurd (h refl)

pub none_added : (max end : ℕ) (events : List Event) → IsOne events → length (text max end events) ≡ 0 → length events ≡ too_large max events
none_added max end events one h =
    ⊎_elim
    (λ (e : events ≡ []). subst (λ own. length own ≡ too_large max own) (sym e) refl)
    (λ (q : (x : Event) × (events ≡ x ∷ [])).
    subst (λ own. length own ≡ too_large max own) (sym q.1)
    (no_line max end q.0 (fitted q.0 max) refl (subst (λ own. length (text max end own) ≡ 0) q.1 h)))
    one

pub some_added : (max end : ℕ) (events : List Event) → IsOne events → length (text max end events) ≢ 0 → 0 ≡ too_large max events
some_added max end events one h =
    ⊎_elim
    (λ (e : events ≡ []). subst (λ own. 0 ≡ too_large max own) (sym e) refl)
    (λ (q : (x : Event) × (events ≡ x ∷ [])).
    subst (λ own. 0 ≡ too_large max own) (sym q.1)
    (has_line max end q.0 (fitted q.0 max) refl (subst (λ own. length (text max end own) ≢ 0) q.1 h)))
    one

-- ---- the stages one after another

kept_parts : (received started complete long : Bool)
    → let omit : Omit = record { received = received; started = started; complete = complete } in
    kept omit long ≡ kept (only omit RequestReceived) long ++ (kept (only omit ResponseStarted) long ++ kept (only omit ResponseComplete) long)
kept_parts true true true true = refl
kept_parts true true true false = refl
kept_parts true true false true = refl
kept_parts true true false false = refl
kept_parts true false true true = refl
kept_parts true false true false = refl
kept_parts true false false true = refl
kept_parts true false false false = refl
kept_parts false true true true = refl
kept_parts false true true false = refl
kept_parts false true false true = refl
kept_parts false true false false = refl
kept_parts false false true true = refl
kept_parts false false true false = refl
kept_parts false false false true = refl
kept_parts false false false false = refl

mapped_parts : {A B : Type 0} (f : A → B) (xs ys zs : List A) → map f (xs ++ (ys ++ zs)) ≡ map f xs ++ (map f ys ++ map f zs)
mapped_parts f xs ys zs = map-append f xs (ys ++ zs) ∙ ap (λ l. map f xs ++ l) (map-append f ys zs)

parts_at : (own : Level) (omit : Omit) (facts : Facts) → events_at own omit facts
    ≡ events_at own (only omit RequestReceived) facts
    ++ (events_at own (only omit ResponseStarted) facts ++ events_at own (only omit ResponseComplete) facts)
parts_at own omit facts =
    let long = is_long_running facts.info in
    let f : Stage → Event = λ s. event s own facts in
    ap (map f) (kept_parts omit.received omit.started omit.complete long)
    ∙ mapped_parts f (kept (only omit RequestReceived) long) (kept (only omit ResponseStarted) long) (kept (only omit ResponseComplete) long)

parts : (own : Level) (omit : Omit) (facts : Facts) → owed_at own omit facts
    ≡ owed_at own (only omit RequestReceived) facts
    ++ (owed_at own (only omit ResponseStarted) facts ++ owed_at own (only omit ResponseComplete) facts)
parts level.None omit facts = refl
parts level.Metadata omit facts = parts_at level.Metadata omit facts
parts level.Request omit facts = parts_at level.Request omit facts
parts level.RequestResponse omit facts = parts_at level.RequestResponse omit facts

text_more : (max end : ℕ) (these those : List Event) → text max end (these ++ those) ≡ text max end these ++ text max end those
text_more max end these those =
    ap (ended end) (flat_map-append (λ own. lines_in (fitted own max)) these those)
    ∙ flat_map-append (λ line. line ++ end ∷ []) (fitted_lines max these) (fitted_lines max those)

count_more : (max : ℕ) (these those : List Event) → too_large max (these ++ those) ≡ too_large max these + too_large max those
count_more max these those = sum_by-append (λ own. cond (is_too_large (fitted own max)) 1 0) these those

pub pushed_more : (max end : ℕ) (these those : List Event) (a b c : List ℕ) (n m : ℕ) → Pushes max end these a b n → Pushes max end those b c m
    → Pushes max end (these ++ those) a c (n + m)
pushed_more max end these those a b c n m first second = record {
  lines =
      second.lines ∙ ap (λ l. l ++ text max end those) first.lines
      ∙ append_assoc a (text max end these) (text max end those)
      ∙ ap (λ l. a ++ l) (sym (text_more max end these those));
  count = let more = count_more max these those in omega (arith, first.count, second.count, more);
}

pub pushed_all : (max end : ℕ) (omit : Omit) (x : Answered) (a b c d : List ℕ) (k n m : ℕ) → omit ≡ x.decision.omit
    → Pushes max end (owed_only omit RequestReceived x) a b k → Pushes max end (owed_only omit ResponseStarted x) b c n
    → Pushes max end (owed_only omit ResponseComplete x) c d m → Pushes max end (owed x.decision x.facts) a d (k + n + m)
pushed_all max end omit x a b c d k n m e first second third =
    let own = x.decision.level in
    let rest = pushed_more max end _ _ b c d n m second third in
    let all = pushed_more max end _ _ a b d k (n + m) first rest in
    let same : owed_only omit RequestReceived x ++ (owed_only omit ResponseStarted x ++ owed_only omit ResponseComplete x)
    ≡ owed x.decision x.facts = sym (parts own omit x.facts) ∙ ap (λ o. owed_at own o x.facts) e in
    let sum : k + (n + m) ≡ k + n + m = omega arith in
    subst (Pushes max end (owed x.decision x.facts) a d) sum
    (subst (λ events. Pushes max end events a d (k + (n + m))) same all)

-- the answer keeps all but the stages that it leaves out, from call to call
pub pushed_in_turn : (max end : ℕ) (x y z : Answered) (a b c d : List ℕ) (k n m : ℕ)
    → y ≡ with_omit (only x.decision.omit RequestReceived) x → z ≡ with_omit (only x.decision.omit ResponseStarted) y
    → Pushes max end (owed_only x.decision.omit RequestReceived x) a b k
    → Pushes max end (owed_only x.decision.omit ResponseStarted y) b c n
    → Pushes max end (owed_only x.decision.omit ResponseComplete z) c d m
    → Pushes max end (owed x.decision x.facts) a d (k + n + m)
pushed_in_turn max end x y z a b c d k n m one two received started complete =
    let omit = x.decision.omit in
    let second = subst (λ own. Pushes max end (owed_only omit ResponseStarted own) b c n) one started in
    let last = subst (λ own. Pushes max end (owed_only omit ResponseComplete own) c d m) two complete in
    let third = subst (λ own. Pushes max end (owed_only omit ResponseComplete own) c d m) one last in
    pushed_all max end omit x a b c d k n m refl received second third
