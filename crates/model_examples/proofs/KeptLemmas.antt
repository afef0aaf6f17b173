-- What is kept of a body, for each body.
use Rattle.std.proofs.Common.{◌≡◌, ℕ, ◌≤◌, ◌<◌, Bool, List, length, refl, inl, inr}
use Rattle.std.proofs.lemmas.Bool.{cases_lt}
use Rattle.std.specs.Prelude.{◌⊎◌}
use Rattle.json_prune.specs.Kept.{kept as kept_value}
use Rattle.json_span.specs.Value.{IsText, flat}
use Rattle.model_sinks.specs.Fixed.{Keeps}
use Rattle.stage_event.specs.Kept.{IsKept}
use Rattle.stage_event.specs.declared.facts.Kept.{Kept}
use Rattle.stage_event.specs.declared.facts.Kept.TheVariants.{Compact, NotJson, Over}
use Rattle.stage_event.specs.declared.keeping.TheConstants.{MOST_KEPT_BYTES}
use Rattle.model_examples.proofs.CutLemmas.{Decided}
use Rattle.model_examples.proofs.ValueLemmas.{is_text}

-- a body that isn't too long
kept_short : (omit : Bool) (body : List ℕ) → length body ≤ MOST_KEPT_BYTES → Decided (IsText body) → (kept : Kept) × IsKept omit body kept
kept_short omit body short (inl text) = (Compact (flat (kept_value omit text.0)), (short, (text.0, text.1, refl)))
kept_short omit body short (inr no_text) = (NotJson, (short, no_text))

pub kept_of : (omit : Bool) (body : List ℕ) → (kept : Kept) × IsKept omit body kept
kept_of omit body = by_length (cases_lt MOST_KEPT_BYTES (length body))
  where
    by_length : (MOST_KEPT_BYTES < length body) ⊎ (length body ≤ MOST_KEPT_BYTES) → (kept : Kept) × IsKept omit body kept
    by_length (inl long) = (Over, long)
    by_length (inr short) = kept_short omit body short (is_text body)

-- what is kept of a body
pub keep : Bool → List ℕ → Kept
keep omit body = (kept_of omit body).0

keep_is_kept : (omit : Bool) (body : List ℕ) → IsKept omit body (keep omit body)
unfolding keep
keep_is_kept omit body = (kept_of omit body).1

-- where there is one answer at most
pub keep_keeps : ((omit : Bool) (body : List ℕ) (these those : Kept) → IsKept omit body these → IsKept omit body those → these ≡ those) → Keeps keep
keep_keeps one omit body kept h = one omit body (keep omit body) kept (keep_is_kept omit body) h
