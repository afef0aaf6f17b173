-- The text of all stages, from the texts of each.
use Rattle.std.proofs.Common.{◌≡◌, ℕ, ◌<◌, ◌≤◌, Bool, true, false, not, if◌then◌else◌, List, [], ◌∷◌, ◌++◌, length, filter, map, refl, sym, ap, ◌∙◌, append-nil, append_assoc}
use Rattle.std.proofs.lemmas.Grind.{flat_map-append}
use Rattle.std.specs.List.{AllByRecursion as All}
use Rattle.event_text.specs.Line.{line_text, stripped}
use Rattle.front_base.specs.Info.{is_long_running}
use Rattle.front_base.specs.declared.level.Level.{Level}
use Rattle.front_base.specs.declared.stage.Stage.{Stage}
use Rattle.front_base.specs.declared.stage.Stage.TheVariants.{RequestReceived, ResponseStarted, ResponseComplete}
use Rattle.policy_rules.specs.declared.omit.Omit.{Omit}
use Rattle.stage_event.specs.Events.{event}
use Rattle.stage_event.specs.declared.event.Event.{Event}
use Rattle.stage_event.specs.declared.facts.Facts.{Facts}
use Rattle.truncate_backend.specs.Fits.{fitted}
use Rattle.truncate_backend.specs.declared.fitted.Fit.{Fit}
use Rattle.truncate_backend.specs.declared.fitted.Fit.TheVariants.{Whole, Stripped, TooLarge}
use Rattle.audit_core.specs.Owed.{omits, events_at, fitted_lines, lines_in, ended, stage_text, started_text}

module _ (max end : ℕ) (own : Level) (omit : Omit) (facts : Facts) where
  abbrev pub at : Stage → Event
  at stage = event stage own facts

  abbrev pub text : List Stage → List ℕ
  text stages = ended end (fitted_lines max (map at stages))

  abbrev pub kept : List Stage → List Stage
  kept stages = filter (λ stage. not (omits omit stage)) stages

  one : (b : Bool) (stage : Stage) (rest : List Stage)
      → text (if not b then stage ∷ rest else rest) ≡ (if b then [] else ended end (lines_in (fitted (at stage) max))) ++ text rest
  one true stage rest = refl
  one false stage rest =
      flat_map-append (λ line. line ++ end ∷ []) (lines_in (fitted (at stage) max)) (fitted_lines max (map at rest))

  -- the first stage comes before the others
  first : (stage : Stage) (rest : List Stage) → text (kept (stage ∷ rest)) ≡ stage_text max end own omit facts stage ++ text (kept rest)
  first stage rest = one (omits omit stage) stage (kept rest)

  last : (stage : Stage) → text (kept (stage ∷ [])) ≡ stage_text max end own omit facts stage
  last stage = first stage [] ∙ append-nil (stage_text max end own omit facts stage)

  abbrev pub stages_by : Bool → List Stage
  stages_by long =
      if long then RequestReceived ∷ ResponseStarted ∷ ResponseComplete ∷ [] else RequestReceived ∷ ResponseComplete ∷ []

  abbrev pub started_by : Bool → List ℕ
  started_by long = if long then stage_text max end own omit facts ResponseStarted else []

  all_by : (long : Bool)
      → text (kept (stages_by long))
      ≡ stage_text max end own omit facts RequestReceived ++ (started_by long ++ stage_text max end own omit facts ResponseComplete)
  all_by true =
      first RequestReceived (ResponseStarted ∷ ResponseComplete ∷ [])
      ∙ ap (λ t. stage_text max end own omit facts RequestReceived ++ t)
      (first ResponseStarted (ResponseComplete ∷ [])
      ∙ ap (λ t. stage_text max end own omit facts ResponseStarted ++ t) (last ResponseComplete))
  all_by false =
      first RequestReceived (ResponseComplete ∷ [])
      ∙ ap (λ t. stage_text max end own omit facts RequestReceived ++ t) (last ResponseComplete)

  pub all_stages : (a b c d : List ℕ) → b ≡ a ++ stage_text max end own omit facts RequestReceived
      → c ≡ b ++ started_text max end own omit facts → d ≡ c ++ stage_text max end own omit facts ResponseComplete
      → d ≡ a ++ ended end (fitted_lines max (events_at own omit facts))
  all_stages a b c d received started complete =
      let first_text = stage_text max end own omit facts RequestReceived in
      let second = started_text max end own omit facts in
      let third = stage_text max end own omit facts ResponseComplete in
      complete
      ∙ ap (λ t. t ++ third) (started ∙ ap (λ t. t ++ second) received)
      ∙ append_assoc (a ++ first_text) second third
      ∙ append_assoc a first_text (second ++ third)
      ∙ ap (λ t. a ++ t) (sym (all_by (is_long_running facts.info)))

-- ---- no line is longer than a line may be

module _ (max : ℕ) where
  abbrev pub IsShort : List ℕ → Type 0
  IsShort line = length line ≤ max

  abbrev pub WholeFits : Type 0
  WholeFits = (own : Event) (m : ℕ) (line : List ℕ) → fitted own m ≡ Whole line → (line ≡ line_text own) × (length line ≤ m)

  abbrev pub StrippedFits : Type 0
  StrippedFits = (own : Event) (m : ℕ) (line : List ℕ) → fitted own m ≡ Stripped line
      → (line ≡ line_text (stripped own)) × (length line ≤ m) × (m < length (line_text own))

  all_append : (these those : List (List ℕ)) → All IsShort these → All IsShort those → All IsShort (these ++ those)
  all_append [] those p q = q
  all_append (x ∷ these) those p q = (p.0, all_append these those p.1 q)

  of_fit : WholeFits → StrippedFits → (own : Event) (fit : Fit) → fitted own max ≡ fit → All IsShort (lines_in fit)
  of_fit whole strip own (Whole line) e = ((whole own max line e).1, tt)
  of_fit whole strip own (Stripped line) e = ((strip own max line e).1, tt)
  of_fit whole strip own (TooLarge size) e = tt

  pub all_fit : WholeFits → StrippedFits → (events : List Event) → All IsShort (fitted_lines max events)
  all_fit whole strip [] = tt
  all_fit whole strip (own ∷ events) =
      all_append (lines_in (fitted own max)) (fitted_lines max events) (of_fit whole strip own (fitted own max) refl)
      (all_fit whole strip events)
