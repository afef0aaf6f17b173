use Rattle.std.proofs.Common.{◌≡◌, ℕ, Bool, true, false, List, refl, sym, ap, ◌∙◌, subst, Ok}
use Rattle.std.proofs.lemmas.Bool.Decides.{Decides-eqb}
use Rattle.std.proofs.lemmas.Slice.Eq.{slice_eq-Decides}
use Rattle.json_prune.specs.Kept.{Keeps, kept}
use Rattle.json_prune.specs.Mend.{mended}
use Rattle.json_span.specs.Value.{Value, StandsFor, flat}
use Rattle.audit_reader.specs.Plain.{Tells, IsKeptJson}
use Rattle.audit_reader.proofs.compact_body.is_kept_json.Goals as goal

-- what is kept of a text is a text of the value that is kept
abbrev KeepsJson : Type 0
KeepsJson = (omit : Bool) (text : List ℕ) (v : Value) → StandsFor text v → StandsFor (flat (kept omit v)) (kept omit v)

abbrev MendsOnce : Type 0
MendsOnce = (text : List ℕ) (v : Value) → StandsFor text v → mended (mended v) ≡ mended v

abbrev OneValue : Type 0
OneValue = (text : List ℕ) (v w : Value) → StandsFor text v → StandsFor text w → v ≡ w

told : KeepsJson → MendsOnce → OneValue → (b : Bool) (left body : List ℕ) → (b ≡ true → left ≡ body) → (left ≡ body → b ≡ true)
    → Keeps false left body → Tells (Ok b) (IsKeptJson body)
told json once one true left body same only k =
    let is : body ≡ flat (mended k.0) = sym (same refl) ∙ k.2 in
    (mended k.0, subst (λ t. StandsFor t (mended k.0)) (sym is) (json false body k.0 k.1), is, once body k.0 k.1)
told json once one false left body same only k = λ h.
    let v : k.0 ≡ h.0 = one body k.0 h.0 k.1 h.1 in
    absurd (cc (only (k.2 ∙ ap (λ w. flat (mended w)) v ∙ ap flat h.3 ∙ sym h.2)))

pub returns-in-Ok : goal.returns-in-Ok
returns-in-Ok c =
    let same = slice_eq-Decides Decides-eqb c.as_slice.result.now c.args.body.now c.eq.result c.eq.ensures in
    told c.kept_is_json.ensures.stands c.mended_once.ensures.once c.one_value.ensures c.eq.result c.in-Ok.kept.items c.args.body.now
    (λ t. sym c.as_slice.ensures.value ∙ same.0 t)
    (λ s. same.1 (c.as_slice.ensures.value ∙ s))
    c.in-Ok.ensures.ok

pub returns-in-Err-NotJson : goal.returns-in-Err-NotJson
returns-in-Err-NotJson c = λ h. (rw c.in-Err-NotJson.field-0-is at c.in-Err-NotJson.ensures.err).refused (h.0, h.1)
