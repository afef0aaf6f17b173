-- A body is kept in one way.
use Rattle.std.proofs.Common.{◌≡◌, ◌≤◌, ℕ, Bool, true, false, List, length, refl, ap, sym, ◌∙◌, arith}
use Rattle.json_prune.specs.Kept.{Keeps, kept as kept_value}
use Rattle.json_prune.specs.Mend.{mended}
use Rattle.json_prune.specs.Prune.{managed}
use Rattle.json_span.specs.Value.{Value, StandsFor, IsText, flat}
use Rattle.stage_event.specs.Kept.{IsKept, IsKeptAs}
use Rattle.stage_event.specs.declared.keeping.TheConstants.{MOST_KEPT_BYTES}
use Rattle.stage_event.specs.declared.show.Show.{Show}
use Rattle.stage_event.specs.declared.show.Show.TheVariants.{Nothing, Whole, Pruned}
use Rattle.stage_event.specs.declared.facts.Kept.{Kept}
use Rattle.stage_event.specs.declared.facts.Kept.TheVariants.{NotAsked, Compact, NotJson, Over, CutOff}

same_text : ((text : List ℕ) (v w : Value) → StandsFor text v → StandsFor text w → v ≡ w) →
    (omit : Bool) (a b body : List ℕ) → Keeps omit a body → Keeps omit b body → a ≡ b
same_text one omit a b body (v, h, e) (w, k, f) = e ∙ (ap (λ x. flat (kept_value omit x)) (one body v w h k) ∙ sym f)

is_text : (omit : Bool) (text body : List ℕ) → Keeps omit text body → IsText body
is_text omit text body (v, h, e) = (v, h)

pub one-kept : ((text : List ℕ) (v w : Value) → StandsFor text v → StandsFor text w → v ≡ w) →
    (omit : Bool) (body : List ℕ) (these those : Kept) → IsKept omit body these → IsKept omit body those → these ≡ those
one-kept one omit body (Compact a) (Compact b) (h, x) (k, y) = ap Compact (same_text one omit a b body x y)
one-kept one omit body (Compact a) NotJson (h, x) (k, y) = absurd (y (is_text omit a body x))
one-kept one omit body (Compact a) Over (h, x) k = absurd (omega arith)
one-kept one omit body NotJson (Compact b) (h, x) (k, y) = absurd (x (is_text omit b body y))
one-kept one omit body NotJson NotJson h k = refl
one-kept one omit body NotJson Over (h, x) k = absurd (omega arith)
one-kept one omit body Over (Compact b) h (k, y) = absurd (omega arith)
one-kept one omit body Over NotJson h (k, y) = absurd (omega arith)
one-kept one omit body Over Over h k = refl
one-kept one omit body NotAsked those h k = absurd h
one-kept one omit body CutOff those h k = absurd h
one-kept one omit body (Compact a) NotAsked h k = absurd k
one-kept one omit body (Compact a) CutOff h k = absurd k
one-kept one omit body NotJson NotAsked h k = absurd k
one-kept one omit body NotJson CutOff h k = absurd k
one-kept one omit body Over NotAsked h k = absurd k
one-kept one omit body Over CutOff h k = absurd k

pub one-shown : ((text : List ℕ) (v w : Value) → StandsFor text v → StandsFor text w → v ≡ w) →
    (show : Show) (body : List ℕ) (these those : Kept) → IsKeptAs show body these → IsKeptAs show body those → these ≡ those
one-shown one Nothing body these those h k = h ∙ sym k
one-shown one Whole body these those h k = one-kept one false body these those h k
one-shown one Pruned body these those h k = one-kept one true body these those h k

value_text : ((text : List ℕ) (v w : Value) → StandsFor text v → StandsFor text w → v ≡ w) →
    (body text : List ℕ) (v : Value) → StandsFor body v → Keeps true text body → text ≡ flat (mended (managed v))
value_text one body text v stands (w, k, e) = e ∙ ap (λ x. flat (mended (managed x))) (one body w v k stands)

-- a body that stands for a value is kept as that value without managed fields
kept_text : ((text : List ℕ) (v w : Value) → StandsFor text v → StandsFor text w → v ≡ w) →
    (body : List ℕ) (v : Value) (kept : Kept) → length body ≤ MOST_KEPT_BYTES → StandsFor body v → IsKept true body kept →
    kept ≡ Compact (flat (mended (managed v)))
kept_text one body v (Compact text) short stands (h, keeps) = ap Compact (value_text one body text v stands keeps)
kept_text one body v NotJson short stands (h, x) = absurd (x (v, stands))
kept_text one body v Over short stands h = absurd (omega arith)
kept_text one body v NotAsked short stands h = absurd h
kept_text one body v CutOff short stands h = absurd h

pub kept-alike : ((text : List ℕ) (v w : Value) → StandsFor text v → StandsFor text w → v ≡ w) →
    (these those : List ℕ) (v w : Value) (kept other : Kept) → length these ≤ MOST_KEPT_BYTES → length those ≤ MOST_KEPT_BYTES →
    StandsFor these v → StandsFor those w → managed v ≡ managed w → IsKept true these kept → IsKept true those other →
    kept ≡ other
kept-alike one these those v w kept other hs ht sv sw same hk ho =
    kept_text one these v kept hs sv hk
    ∙ (ap (λ x. Compact (flat (mended x))) same ∙ sym (kept_text one those w other ht sw ho))
