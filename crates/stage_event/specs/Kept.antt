-- What is kept of a body. Events show JSON alone (RFC 8259).
use Rattle.std.specs.Prelude.{◌≡◌, ℕ, ◌<◌, ◌≤◌, Bool, true, false, List, length}
use Rattle.json_prune.specs.Kept.{Keeps}
use Rattle.json_span.specs.Value.{IsText}
use Rattle.stage_event.specs.declared.facts.Kept.{Kept}
use Rattle.stage_event.specs.declared.facts.Kept.TheVariants.{NotAsked, Compact, NotJson, Over, CutOff}
use Rattle.stage_event.specs.declared.keeping.TheConstants.{MOST_KEPT_BYTES}
use Rattle.stage_event.specs.declared.show.Show.{Show}
use Rattle.stage_event.specs.declared.show.Show.TheVariants.{Nothing, Whole, Pruned}

-- of a whole body: its tokens joined where it is one JSON text, without managed fields where they are omitted, unless it
-- is too long
abbrev pub IsKept : Bool → List ℕ → Kept → Type 0
IsKept omit body (Compact text) = (length body ≤ MOST_KEPT_BYTES) × Keeps omit text body
IsKept omit body NotJson = (length body ≤ MOST_KEPT_BYTES) × ¬ (IsText body)
IsKept omit body Over = MOST_KEPT_BYTES < length body
IsKept omit body NotAsked = ⊥
IsKept omit body CutOff = ⊥

-- what is kept of a body of which that is shown: one that nobody has to look at isn't asked for
abbrev pub IsKeptAs : Show → List ℕ → Kept → Type 0
IsKeptAs Nothing body kept = kept ≡ NotAsked
IsKeptAs Whole body kept = IsKept false body kept
IsKeptAs Pruned body kept = IsKept true body kept
