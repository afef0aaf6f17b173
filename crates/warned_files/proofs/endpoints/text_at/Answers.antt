use Rattle.std.proofs.Common.{◌≡◌, ℕ, List, Bool, true, false, Some, None, refl, sym, ap, ◌∙◌, IsUtf8}
use Rattle.std.specs.Str.{is_utf8}
use Rattle.std.proofs.lemmas.Str.{IsUtf8-from_is_utf8, is_utf8-from_IsUtf8}
use Rattle.apiservice_rows.specs.Object.{kept}
use Rattle.csv.specs.Records.{field_at, fields_of}
use Rattle.service_endpoints.specs.File.{text_at}
use Rattle.warned_files.proofs.endpoints.text_at.Goals as goal

text_is : (f : List ℕ) → IsUtf8 f → kept is_utf8 (Some f) ≡ Some f
text_is f u = rw (is_utf8-from_IsUtf8 f u) refl

no_text : (f : List ℕ) → ¬ (IsUtf8 f) → kept is_utf8 (Some f) ≡ None
no_text f bad = by_cases (is_utf8 f) refl
  where
    by_cases : (b : Bool) → is_utf8 f ≡ b → kept is_utf8 (Some f) ≡ None
    by_cases true e = absurd (bad (IsUtf8-from_is_utf8 f e))
    by_cases false e = rw e refl

text_found : (fields : List (List ℕ)) (i : ℕ) (f t : List ℕ) → Some f ≡ field_at fields i → t ≡ f → IsUtf8 f → Some t ≡ text_at fields i
text_found fields i f t e same u = ap (λ x. Some x) same ∙ sym (text_is f u) ∙ ap (kept is_utf8) e

text_refused : (fields : List (List ℕ)) (i : ℕ) (f : List ℕ) → Some f ≡ field_at fields i → ¬ (IsUtf8 f) → None ≡ text_at fields i
text_refused fields i f e bad = sym (no_text f bad) ∙ ap (kept is_utf8) e

pub returns-in-Ok : goal.returns-in-Ok
returns-in-Ok c = text_found (fields_of c.args.row.now) c.args.i c.in_ok-get.field-0.now c.in-Ok.text.now c.in_ok-get.ensures.value c.in-Ok.ensures.cases.0 c.in-Ok.ensures.cases.1

pub returns-in-Err : goal.returns-in-Err
returns-in-Err c = text_refused (fields_of c.args.row.now) c.args.i c.in_ok-get.field-0.now c.in_ok-get.ensures.value c.in-Err.ensures.cases.0
