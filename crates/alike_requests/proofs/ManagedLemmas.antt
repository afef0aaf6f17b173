-- Bodies that differ in managed fields alone.
use Rattle.std.proofs.Common.{◌≡◌, ◌≤◌, Bool, true, false, List, ℕ, length, sym, ap, ◌∙◌, subst, arith}
use Rattle.audit_core.specs.Exchange.{KeepsRequest}
use Rattle.audit_core.specs.declared.attributes.Attributes.{Attributes}
use Rattle.http_edge.specs.declared.request.Request.{Request}
use Rattle.json_prune.specs.Kept.{Keeps}
use Rattle.json_prune.specs.Mend.{mended}
use Rattle.json_prune.specs.Prune.{managed}
use Rattle.json_span.specs.Value.{StandsFor, Value, flat}
use Rattle.policy_rules.specs.declared.decision.Decision.{Decision}
use Rattle.stage_event.specs.Due.{request_due, shown_as}
use Rattle.stage_event.specs.Kept.{IsKept, IsKeptAs}
use Rattle.stage_event.specs.declared.facts.Kept.{Kept}
use Rattle.stage_event.specs.declared.facts.Kept.TheVariants.{NotAsked, Compact, NotJson, Over, CutOff}
use Rattle.stage_event.specs.declared.keeping.TheConstants.{MOST_KEPT_BYTES}

-- the law that is called
abbrev pub OneValue : Type 0
OneValue = (text : List ℕ) (v w : Value) → StandsFor text v → StandsFor text w → v ≡ w

module _ (one : OneValue) (body other : List ℕ) (v w : Value) (small : length other ≤ MOST_KEPT_BYTES) (stands : StandsFor body v)
    (holds : StandsFor other w) (same : managed v ≡ managed w) where
  text_same : (text : List ℕ) → Keeps true text body → Keeps true text other
  text_same text (x, h, e) = (w, holds, e ∙ ap (λ z. flat (mended z)) (ap managed (one body x v h stands) ∙ same))

  kept_same : (kept : Kept) → length body ≤ MOST_KEPT_BYTES → IsKept true body kept → IsKept true other kept
  kept_same (Compact text) short (h, keeps) = (small, text_same text keeps)
  kept_same NotJson short (h, bad) = absurd (bad (v, stands))
  kept_same Over short h = absurd (omega arith)
  kept_same NotAsked short h = h
  kept_same CutOff short h = h

  shown_same : (due : Bool) (kept : Kept) → length body ≤ MOST_KEPT_BYTES → IsKeptAs (shown_as due true) body kept
      → IsKeptAs (shown_as due true) other kept
  shown_same false kept short h = h
  shown_same true kept short h = kept_same kept short h

pub managed_same : OneValue → (d other : Decision) (a b : Attributes) (r s : Request) (v w : Value) (kept : Kept)
    → d.omit_managed ≡ true → other ≡ d → a ≡ b → length r.body ≤ MOST_KEPT_BYTES → length s.body ≤ MOST_KEPT_BYTES
    → StandsFor r.body v → StandsFor s.body w → managed v ≡ managed w → KeepsRequest d a r kept → KeepsRequest other b s kept
managed_same one d other a b r s v w kept omits e f short small stands holds same keeps =
    let due = request_due d.level a.info in
    let first = subst (λ o. IsKeptAs (shown_as due o) r.body kept) omits keeps in
    let next = shown_same one r.body s.body v w small stands holds same due kept short first in
    subst (λ x. KeepsRequest other x s kept) f
    (subst (λ x. KeepsRequest x a s kept) (sym e) (subst (λ o. IsKeptAs (shown_as due o) s.body kept) (sym omits) next))
