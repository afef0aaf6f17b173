-- Alike exchanges owe the same events.
use Rattle.std.proofs.Common.{◌≡◌, ◌≢◌, ℕ, suc, Bool, true, false, cond, List, [], ◌∷◌, ◌++◌, ◌+◌, length, take, map, refl, ap, ap₂, sym, ◌∙◌}
use Rattle.alike_exchanges.specs.Alike.{AlikeExchanges, fate_of, fates}
use Rattle.audit_core.specs.Offers.{Due, offers_due}
use Rattle.audit_core.specs.Owed.{owed, owed_at, stages_due}
use Rattle.audit_core.specs.declared.offers.OfferNote.{OfferNote}
use Rattle.audit_core.specs.declared.offers.Outcome.{Outcome}
use Rattle.audit_core.specs.declared.offers.Outcome.TheVariants as outcome
use Rattle.audit_core.specs.declared.settings.Settings.{Settings}
use Rattle.audit_core.specs.declared.sinks.Sink.{Sink}
use Rattle.connection_laws.specs.Whole.{due_in, offered_in, offers_in}
use Rattle.event_offers.specs.Taken.{count_in, is_for, is_taken, is_tried, kept_line, line_in, lines_for}
use Rattle.front_base.specs.Line.{Line}
use Rattle.front_base.specs.declared.level.Level.{Level}
use Rattle.front_base.specs.declared.level.Level.TheVariants as level
use Rattle.policy_rules.specs.declared.decision.Decision.{Decision}
use Rattle.policy_rules.specs.declared.omit.Omit.{Omit}
use Rattle.role_threads.specs.Lists.{AllPairs}
use Rattle.session_core.specs.declared.exchange.Exchange.{Exchange}
use Rattle.stage_event.specs.Events.{event, event_of}
use Rattle.stage_event.specs.Views.{view, with_bodies}
use Rattle.stage_event.specs.declared.event.Event.{Event}
use Rattle.stage_event.specs.declared.facts.Facts.{Facts}
use Rattle.stage_event.specs.declared.facts.Kept.{Kept}
use Rattle.truncate_backend.specs.declared.fitted.Fit.{Fit}
use Rattle.truncate_backend.specs.declared.fitted.Fit.TheVariants as fit

-- the events of what is recorded
events_of : Level → Omit → Facts → List Event
events_of l omit facts = map (λ stage. event_of stage l facts) (stages_due omit facts.info)

same_owed_at : (l : Level) (o p : Omit) (f g : Facts) → (l ≢ level.None → o ≡ p) → (l ≢ level.None → view l f ≡ view l g) → owed_at l o f ≡ owed_at l p g
unfolding event events_of
same_owed_at level.None o p f g h e = refl
same_owed_at level.Metadata o p f g h e = ap₂ (events_of level.Metadata) (h (λ never. cc)) (e (λ never. cc))
same_owed_at level.Request o p f g h e = ap₂ (events_of level.Request) (h (λ never. cc)) (e (λ never. cc))
same_owed_at level.RequestResponse o p f g h e = ap₂ (events_of level.RequestResponse) (h (λ never. cc)) (e (λ never. cc))

pub same_owed : (x y : Exchange) → AlikeExchanges x y → owed x.decision x.facts ≡ owed y.decision y.facts
same_owed x y a =
    same_owed_at x.decision.level x.decision.omit y.decision.omit x.facts y.facts a.omit a.view
    ∙ ap (λ l. owed_at l y.decision.omit y.facts) a.level

pub same_due : (set : Settings) (xs ys : List Exchange) → AllPairs AlikeExchanges xs ys → due_in set xs ≡ due_in set ys
same_due set [] [] h = refl
same_due set [] (y ∷ ys) h = absurd h
same_due set (x ∷ xs) [] h = absurd h
same_due set (x ∷ xs) (y ∷ ys) h = ap₂ (λ own rest. offers_due set own ++ rest) (same_owed x y h.0) (same_due set xs ys h.1)

as_many : (these those : List OfferNote) → fates these ≡ fates those → length these ≡ length those
as_many [] [] e = refl
as_many [] (b ∷ those) e = absurd cc
as_many (a ∷ these) [] e = absurd cc
as_many (a ∷ these) (b ∷ those) e = let rest : fates these ≡ fates those = cc in ap suc (as_many these those rest)

pub same_offered : (set : Settings) (xs ys : List Exchange) → AllPairs AlikeExchanges xs ys → offered_in set xs ≡ offered_in set ys
same_offered set [] [] h = refl
same_offered set [] (y ∷ ys) h = absurd h
same_offered set (x ∷ xs) [] h = absurd h
same_offered set (x ∷ xs) (y ∷ ys) h =
    ap₂ (λ own rest. own ++ rest)
    (ap₂ (λ (n : ℕ) own. take n (offers_due set own)) (as_many x.offers y.offers h.0.offers) (same_owed x y h.0))
    (same_offered set xs ys h.1)

-- ---- the lines of what was offered

by_map : (these those : List OfferNote) → fates (these ++ those) ≡ fates these ++ fates those
by_map [] those = refl
by_map (a ∷ these) those = ap (λ (l : List Outcome). fate_of a.outcome ∷ l) (by_map these those)

same_fates : (xs ys : List Exchange) → AllPairs AlikeExchanges xs ys → fates (offers_in xs) ≡ fates (offers_in ys)
same_fates [] [] h = refl
same_fates [] (y ∷ ys) h = absurd h
same_fates (x ∷ xs) [] h = absurd h
same_fates (x ∷ xs) (y ∷ ys) h =
    by_map x.offers (offers_in xs)
    ∙ (ap₂ (λ own rest. own ++ rest) h.0.offers (same_fates xs ys h.1) ∙ sym (by_map y.offers (offers_in ys)))

-- a test that looks at no size
abbrev IsOfFate : (Outcome → Bool) → Type 0
IsOfFate keeps = (own : Outcome) → keeps (fate_of own) ≡ keeps own

taken_of_fate : IsOfFate is_taken
taken_of_fate outcome.Taken = refl
taken_of_fate outcome.Full = refl
taken_of_fate outcome.Failed = refl
taken_of_fate (outcome.TooLarge size) = refl

tried_of_fate : IsOfFate is_tried
tried_of_fate outcome.Taken = refl
tried_of_fate outcome.Full = refl
tried_of_fate outcome.Failed = refl
tried_of_fate (outcome.TooLarge size) = refl

same_line : (keeps : Outcome → Bool) (bay before : ℕ) (written : Fit) (own other : Outcome) → keeps own ≡ keeps other
    → line_in keeps bay before written own ≡ line_in keeps bay before written other
same_line keeps bay before (fit.Whole bytes) own other e = ap (λ b. kept_line b (record { bay = bay; number = before; bytes = bytes })) e
same_line keeps bay before (fit.Stripped bytes) own other e = ap (λ b. kept_line b (record { bay = bay; number = before; bytes = bytes })) e
same_line keeps bay before (fit.TooLarge size) own other e = refl

by_sink : (b : Bool) (own its rest more there others : List Line) → own ≡ its → rest ≡ more → there ≡ others
    → cond b (own ++ rest) there ≡ cond b (its ++ more) others
by_sink true own its rest more there others e f g = ap₂ (λ a b. a ++ b) e f
by_sink false own its rest more there others e f g = g

same_kept : (keeps : Outcome → Bool) → IsOfFate keeps → (sink : Sink) (bay before : ℕ) (dues : List Due) (these those : List OfferNote)
    → fates these ≡ fates those → lines_for keeps sink bay before dues these ≡ lines_for keeps sink bay before dues those
same_kept keeps f sink bay before [] these those e = refl
same_kept keeps f sink bay before (due ∷ dues) [] [] e = refl
same_kept keeps f sink bay before (due ∷ dues) [] (b ∷ those) e = absurd cc
same_kept keeps f sink bay before (due ∷ dues) (a ∷ these) [] e = absurd cc
same_kept keeps f sink bay before (due ∷ dues) (a ∷ these) (b ∷ those) e =
    let first : fate_of a.outcome ≡ fate_of b.outcome = cc in
    let rest : fates these ≡ fates those = cc in
    by_sink (is_for sink due.sink) (line_in keeps bay before due.fit a.outcome) (line_in keeps bay before due.fit b.outcome)
    (lines_for keeps sink bay (before + count_in due.fit) dues these) (lines_for keeps sink bay (before + count_in due.fit) dues those)
    (lines_for keeps sink bay before dues these) (lines_for keeps sink bay before dues those)
    (same_line keeps bay before due.fit a.outcome b.outcome (sym (f a.outcome) ∙ (ap keeps first ∙ f b.outcome)))
    (same_kept keeps f sink bay (before + count_in due.fit) dues these those rest)
    (same_kept keeps f sink bay before dues these those rest)

lines_alike : (keeps : Outcome → Bool) → IsOfFate keeps → (set : Settings) (sink : Sink) (bay : ℕ) (xs ys : List Exchange) → AllPairs AlikeExchanges xs ys
    → lines_for keeps sink bay 0 (offered_in set xs) (offers_in xs) ≡ lines_for keeps sink bay 0 (offered_in set ys) (offers_in ys)
lines_alike keeps f set sink bay xs ys h =
    ap (λ (dues : List Due). lines_for keeps sink bay 0 dues (offers_in xs)) (same_offered set xs ys h)
    ∙ same_kept keeps f sink bay 0 (offered_in set ys) (offers_in xs) (offers_in ys) (same_fates xs ys h)

pub same_taken : (set : Settings) (sink : Sink) (bay : ℕ) (xs ys : List Exchange) → AllPairs AlikeExchanges xs ys
    → lines_for is_taken sink bay 0 (offered_in set xs) (offers_in xs) ≡ lines_for is_taken sink bay 0 (offered_in set ys) (offers_in ys)
same_taken = lines_alike is_taken taken_of_fate

pub same_tried : (set : Settings) (sink : Sink) (bay : ℕ) (xs ys : List Exchange) → AllPairs AlikeExchanges xs ys
    → lines_for is_tried sink bay 0 (offered_in set xs) (offers_in xs) ≡ lines_for is_tried sink bay 0 (offered_in set ys) (offers_in ys)
same_tried = lines_alike is_tried tried_of_fate

-- ---- what looks alike, and what doesn't

pub alike_itself : (x : Exchange) → AlikeExchanges x x
alike_itself x = record { level = refl; omit = λ other. refl; view = λ other. refl; offers = refl }

pub alike_at_none : (x y : Exchange) → x.decision.level ≡ level.None → y.decision.level ≡ level.None → fates y.offers ≡ fates x.offers → AlikeExchanges x y
alike_at_none x y e f o = record {
  level = e ∙ sym f;
  omit = λ other. absurd (other e);
  view = λ other. absurd (other e);
  offers = sym o;
}

same_view : (l : Level) (request reply : Kept) (f : Facts) → l ≡ level.Metadata → view l f ≡ view l (with_bodies request reply f)
same_view level.None request reply f e = absurd cc
same_view level.Metadata request reply f e = refl
same_view level.Request request reply f e = absurd cc
same_view level.RequestResponse request reply f e = absurd cc

pub alike_but_for_bodies : (x y : Exchange) (request reply : Kept) → x.decision.level ≡ level.Metadata → y.decision ≡ x.decision
    → y.facts ≡ with_bodies request reply x.facts → fates y.offers ≡ fates x.offers → AlikeExchanges x y
alike_but_for_bodies x y request reply l d f o = record {
  level = ap (λ (own : Decision). own.level) (sym d);
  omit = λ other. ap (λ (own : Decision). own.omit) (sym d);
  view = λ other. same_view x.decision.level request reply x.facts l ∙ ap (view x.decision.level) (sym f);
  offers = sym o;
}

-- what every level above None records
record Keeps (l : Level) (f : Facts) : Type 0 where
  pub status : (view l f).status ≡ f.status
  pub target : (view l f).target ≡ f.target
  pub info : (view l f).info ≡ f.info
  pub user : (view l f).user ≡ f.user
  pub acting : (view l f).acting ≡ f.acting

keeps : (l : Level) (f : Facts) → l ≢ level.None → Keeps l f
keeps level.None f other = absurd (other refl)
keeps level.Metadata f other = record { status = refl; target = refl; info = refl; user = refl; acting = refl }
keeps level.Request f other = record { status = refl; target = refl; info = refl; user = refl; acting = refl }
keeps level.RequestResponse f other = record { status = refl; target = refl; info = refl; user = refl; acting = refl }

module _ (x y : Exchange) (a : AlikeExchanges x y) (other : x.decision.level ≢ level.None) where
  own : Keeps x.decision.level x.facts
  own = keeps x.decision.level x.facts other

  its : Keeps x.decision.level y.facts
  its = keeps x.decision.level y.facts other

  pub status_is_seen : x.facts.status ≡ y.facts.status
  status_is_seen = sym own.status ∙ (ap (λ (v : Facts). v.status) (a.view other) ∙ its.status)

  pub target_is_seen : x.facts.target ≡ y.facts.target
  target_is_seen = sym own.target ∙ (ap (λ (v : Facts). v.target) (a.view other) ∙ its.target)

  pub info_is_seen : x.facts.info ≡ y.facts.info
  info_is_seen = sym own.info ∙ (ap (λ (v : Facts). v.info) (a.view other) ∙ its.info)

  pub user_is_seen : x.facts.user ≡ y.facts.user
  user_is_seen = sym own.user ∙ (ap (λ (v : Facts). v.user) (a.view other) ∙ its.user)

  pub acting_is_seen : x.facts.acting ≡ y.facts.acting
  acting_is_seen = sym own.acting ∙ (ap (λ (v : Facts). v.acting) (a.view other) ∙ its.acting)
