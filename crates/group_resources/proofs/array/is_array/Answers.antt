use Rattle.std.proofs.Common.{◌≡◌, ℕ, Bool, true, false, List, refl, sym, ap, ◌∙◌, Ok}
use Rattle.std.proofs.lemmas.Bool.Decides.{Decides-eqb}
use Rattle.std.proofs.lemmas.Slice.Eq.{slice_eq-Decides}
use Rattle.json_span.specs.Value.{Value, array, StandsFor, Compacts, flat}
use Rattle.group_resources.specs.Lines.{IsArray}
use Rattle.group_resources.specs.Lists.{begins}
use Rattle.group_resources.specs.Reading.{Tells}
use Rattle.group_resources.proofs.MemberLemmas.{array_alone}
use Rattle.group_resources.proofs.array.is_array.Goals as goal

told : (b : Bool) (joined bytes : List ℕ) → (b ≡ true → joined ≡ bytes) → (joined ≡ bytes → b ≡ true) → begins 91 bytes ≡ true → Compacts joined bytes
    → ((text : List ℕ) (v w : Value) → StandsFor text v → StandsFor text w → v ≡ w) → Tells (IsArray bytes) (Ok b)
told true joined bytes same only is k one = array_alone bytes k.0 k.1 (sym (same refl) ∙ k.2) is
told false joined bytes same only is k one = λ h.
    absurd (cc (only (k.2 ∙ ap flat (one bytes k.0 (array h.0) k.1 h.1) ∙ sym h.2)))

pub returns-in-Ok : goal.returns-in-Ok
returns-in-Ok c =
    let same = slice_eq-Decides Decides-eqb c.as_slice.result.now c.args.bytes.now c.eq.result c.eq.ensures in
    told c.eq.result c.in-Ok.joined.items c.args.bytes.now
    (λ t. sym c.as_slice.ensures.value ∙ same.0 t)
    (λ s. same.1 (c.as_slice.ensures.value ∙ s))
    (sym c.begins.ensures ∙ c.if-not-begins.false) c.in-Ok.ensures.ok c.one_value.ensures

pub returns-in-Err-NotJson : goal.returns-in-Err-NotJson
returns-in-Err-NotJson c = λ h. (rw c.in-Err-NotJson.field-0-is at c.in-Err-NotJson.ensures.err).refused (array h.0, h.1)
