-- Events by their stages.
use Rattle.std.proofs.Common.{◌≡◌, Bool, true, false, not, ◌&&◌, if◌then◌else◌, List, [], ◌∷◌, ◌++◌, filter, map, refl, sym, ap, ◌∙◌, append-nil}
use Rattle.std.proofs.lemmas.Grind.{flat_map-append}
use Rattle.audit_core.specs.Offers.{offers_due, due_at, sinks_on}
use Rattle.audit_core.specs.Owed.{omits, owed, owed_at}
use Rattle.audit_core.specs.declared.settings.Settings.{Settings}
use Rattle.event_offers.specs.Offering.{stage_events, started_events, event_unless, events_by}
use Rattle.front_base.specs.Info.{is_long_running}
use Rattle.front_base.specs.declared.level.Level.{Level}
use Rattle.front_base.specs.declared.level.Level.TheVariants as level
use Rattle.front_base.specs.declared.stage.Stage.{Stage}
use Rattle.front_base.specs.declared.stage.Stage.TheVariants.{RequestReceived, ResponseStarted, ResponseComplete}
use Rattle.policy_rules.specs.declared.decision.Decision.{Decision}
use Rattle.policy_rules.specs.declared.omit.Omit.{Omit}
use Rattle.stage_event.specs.Events.{event}
use Rattle.stage_event.specs.declared.event.Event.{Event}
use Rattle.stage_event.specs.declared.facts.Facts.{Facts}

-- the events of stages of which each may be omitted
module _ (at : Stage → Event) where
  two : (a b : Bool) (s t : Stage)
      → map at (if not a then s ∷ (if not b then t ∷ [] else []) else (if not b then t ∷ [] else []))
      ≡ event_unless a (at s) ++ event_unless b (at t)
  two true true s t = refl
  two true false s t = refl
  two false true s t = refl
  two false false s t = refl

  three : (a b c : Bool) (r s t : Stage)
      → map at (if not a
      then r ∷ (if not b then s ∷ (if not c then t ∷ [] else []) else (if not c then t ∷ [] else []))
      else (if not b then s ∷ (if not c then t ∷ [] else []) else (if not c then t ∷ [] else [])))
      ≡ event_unless a (at r) ++ (event_unless b (at s) ++ event_unless c (at t))
  three true true true r s t = refl
  three true true false r s t = refl
  three true false true r s t = refl
  three true false false r s t = refl
  three false true true r s t = refl
  three false true false r s t = refl
  three false false true r s t = refl
  three false false false r s t = refl

at_stages : (own : Level) (omit : Omit) (facts : Facts) (long : Bool)
    → map (λ stage. event stage own facts) (filter (λ stage. not (omits omit stage))
    (if long then RequestReceived ∷ ResponseStarted ∷ ResponseComplete ∷ [] else RequestReceived ∷ ResponseComplete ∷ []))
    ≡ event_unless omit.received (event RequestReceived own facts)
    ++ ((if long then event_unless omit.started (event ResponseStarted own facts) else [])
    ++ event_unless omit.complete (event ResponseComplete own facts))
at_stages own omit facts true =
    three (λ stage. event stage own facts) omit.received omit.started omit.complete RequestReceived ResponseStarted ResponseComplete
at_stages own omit facts false =
    two (λ stage. event stage own facts) omit.received omit.complete RequestReceived ResponseComplete

-- by the level and by whether it runs long
abbrev pub owed_by : Level → Omit → Facts → Bool → List Event
owed_by level.None omit facts long = []
owed_by own omit facts long = map (λ stage. event stage own facts) (filter (λ stage. not (omits omit stage))
    (if long then RequestReceived ∷ ResponseStarted ∷ ResponseComplete ∷ [] else RequestReceived ∷ ResponseComplete ∷ []))

abbrev pub parts_by : Level → Omit → Facts → Bool → List Event
parts_by own omit facts long =
    events_by own omit.received (event RequestReceived own facts)
    ++ ((if long then events_by own omit.started (event ResponseStarted own facts) else [])
    ++ events_by own omit.complete (event ResponseComplete own facts))

none_by : (omit : Omit) (facts : Facts) (long : Bool) → owed_by level.None omit facts long ≡ parts_by level.None omit facts long
none_by omit facts true = refl
none_by omit facts false = refl

by_level : (own : Level) (omit : Omit) (facts : Facts) (long : Bool) → owed_by own omit facts long ≡ parts_by own omit facts long
by_level level.None omit facts long = none_by omit facts long
by_level level.Metadata omit facts long = at_stages level.Metadata omit facts long
by_level level.Request omit facts long = at_stages level.Request omit facts long
by_level level.RequestResponse omit facts long = at_stages level.RequestResponse omit facts long

owed_is : (own : Level) (omit : Omit) (facts : Facts) → owed_at own omit facts ≡ owed_by own omit facts (is_long_running facts.info)
owed_is level.None omit facts = refl
owed_is level.Metadata omit facts = refl
owed_is level.Request omit facts = refl
owed_is level.RequestResponse omit facts = refl

pub owed_stages : (d : Decision) (facts : Facts)
    → owed d facts ≡ stage_events d facts RequestReceived ++ (started_events d facts ++ stage_events d facts ResponseComplete)
owed_stages d facts = owed_is d.level d.omit facts ∙ by_level d.level d.omit facts (is_long_running facts.info)

pub due-append : (set : Settings) (these those : List Event)
    → offers_due set (these ++ those) ≡ offers_due set these ++ offers_due set those
due-append set these those = flat_map-append (λ own. map (due_at set own) (sinks_on set)) these those
