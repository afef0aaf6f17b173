use Rattle.std.proofs.Common.{◌≡◌, ℕ, Bool, true, false, List, Option, Some, None, refl, sym, ap, ◌∙◌}
use Rattle.std.proofs.lemmas.Slice.Eq.{bytes_eq-Decides}
use Rattle.std.specs.Prelude.{if◌then◌else◌}
use Rattle.std.specs.Str.{bytes_eq}
use Rattle.json_value.specs.Read.{value_of}
use Rattle.apiservice_rows.specs.Row.{Row}
use Rattle.service_patches.specs.Patches.{merged_text, named, row_by, row_in}
use Rattle.service_patches.proofs.laws.a_patch_keeps_the_name.Goals as goal

name_if : (b : Bool) (name : List ℕ) (found row : Row) → (b ≡ true → found.name ≡ name)
    → (if b then Some found else None) ≡ Some row → row.name ≡ name
name_if true name found row same e =
    let one : found ≡ row = cc in sym (ap (λ (r : Row). r.name) one) ∙ same refl
name_if false name found row same e = absurd (cc e)

of_row : (name : List ℕ) (found : Option Row) (row : Row) → named name found ≡ Some row → row.name ≡ name
of_row name None row e = absurd (cc e)
of_row name (Some found) row e =
    name_if (bytes_eq found.name name) name found row (λ same. (bytes_eq-Decides found.name name).0 same) e

of_text : (name : List ℕ) (text : Option (List ℕ)) (row : Row) → row_by name text ≡ Some row → row.name ≡ name
of_text name None row e = absurd (cc e)
of_text name (Some text) row e = of_row name (row_in text) row e

pub returns : goal.returns
returns c = λ name object patch row e. of_text name (merged_text (value_of object) (value_of patch)) row e
