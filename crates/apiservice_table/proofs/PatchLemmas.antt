-- What a merge patch makes of the row of a name.
use Rattle.std.proofs.Common.{◌≡◌, ℕ, Bool, true, List, Option, Some, None, refl, sym, ap, subst, ◌∙◌}
use Rattle.std.specs.Prelude.{is_some, option_map, if◌then◌else◌}
use Rattle.std.specs.Str.{bytes_eq}
use Rattle.std.proofs.lemmas.Slice.Eq.{bytes_eq-Decides}
use Rattle.apiservice_rows.specs.Row.{Row}
use Rattle.apiservice_table.specs.Changes.{changed, changed_table, left_by, patched, patched_in, patch_refusal, refusal, unless_made, with_any, IsDue}
use Rattle.apiservice_table.specs.Services.{object_named}
use Rattle.apiservice_table.specs.Table.{Table, next, row_named, with_row}
use Rattle.apiservice_table.specs.declared.change.Change.TheVariants.{Replace, Patch}
use Rattle.apiservice_table.specs.declared.change.ChangeFault.{ChangeFault}
use Rattle.apiservice_table.specs.declared.change.ChangeFault.TheVariants.{Missing}
use Rattle.apiservice_table.proofs.ManyLemmas.{named_q}
use Rattle.service_patches.specs.Patches.{patched_row}

-- without a row of the name there is none to patch
pub missing_is : (name patch : List ℕ) (rows : List Row) → row_named name rows ≡ None → refusal rows (Patch name patch) ≡ Some Missing
missing_is name patch rows none = ap (patch_refusal name patch) none

-- the row that the patch of a row makes
pub made_is : (name patch : List ℕ) (rows : List Row) (own : Row) (new : Option Row) → row_named name rows ≡ Some own
    → new ≡ patched_row name own.object patch → patched_in name patch rows ≡ new
made_is name patch rows own new found e = ap (patched name patch) found ∙ sym e

-- and its refusal, where it makes none
pub refused_is : (name patch : List ℕ) (rows : List Row) (own : Row) (new : Option Row) → row_named name rows ≡ Some own
    → new ≡ patched_row name own.object patch → refusal rows (Patch name patch) ≡ unless_made new
refused_is name patch rows own new found e = ap (patch_refusal name patch) found ∙ ap unless_made (sym e)

-- a row that was made is taken, and of one that was there
taken : (name patch : List ℕ) (found : Option Row) (new : Row) → patched name patch found ≡ Some new
    → (patch_refusal name patch found ≡ None) × (is_some found ≡ true)
taken name patch None new e = absurd (cc e)
taken name patch (Some own) new e = (ap unless_made e, refl)

-- what the law of patches says
abbrev pub KeepsName : Type 0
KeepsName = (name object patch : List ℕ) (row : Row) → patched_row name object patch ≡ Some row → row.name ≡ name

pub name_of : KeepsName → (name patch : List ℕ) (rows : List Row) (new : Row) → patched_in name patch rows ≡ Some new
    → new.name ≡ name
name_of law name patch rows new made = by_row (row_named name rows) made
  where
    by_row : (found : Option Row) → patched name patch found ≡ Some new → new.name ≡ name
    by_row None e = absurd (cc e)
    by_row (Some own) e = law name own.object patch new e

-- a row of a name that is put in is the row of that name
object_of : (name : List ℕ) (new : Row) (rows : List Row) → new.name ≡ name
    → object_named name (with_row new rows) ≡ Some new.object
object_of name new rows e =
    let equal : bytes_eq new.name name ≡ true = (bytes_eq-Decides new.name name).1 e in
    ap (option_map (λ (r : Row). r.object))
    (named_q name new rows ∙ ap (λ (b : Bool). if b then Some new else row_named name rows) equal)

pub taken_so : (name patch : List ℕ) (rows : List Row) (new : Row) → patched_in name patch rows ≡ Some new
    → refusal rows (Patch name patch) ≡ None
taken_so name patch rows new made = (taken name patch (row_named name rows) new made).0

pub changed_so : (name patch : List ℕ) (rows : List Row) (new : Row) → patched_in name patch rows ≡ Some new
    → changed rows (Patch name patch) ≡ with_row new rows
changed_so name patch rows new made = ap (λ (o : Option Row). with_any o rows) made

-- it leaves the object of the row that was made
pub left_so : (name patch : List ℕ) (rows : List Row) (new : Row) → patched_in name patch rows ≡ Some new → new.name ≡ name
    → Some new.object ≡ left_by (Patch name patch) (changed rows (Patch name patch))
left_so name patch rows new made own =
    sym (ap (object_named name) (changed_so name patch rows new made) ∙ object_of name new rows own)

-- the row replaces the one that was there
replaces : (name patch : List ℕ) (rows : List Row) (new : Row) → patched_in name patch rows ≡ Some new → new.name ≡ name
    → refusal rows (Replace new) ≡ None
replaces name patch rows new made own =
    let there : is_some (row_named new.name rows) ≡ true =
    ap (λ (n : List ℕ). is_some (row_named n rows)) own ∙ (taken name patch (row_named name rows) new made).1 in
    ap (λ (b : Bool). if b then None else Some Missing) there

-- so what refuses one refuses the other
pub due_so : (name patch : List ℕ) (rows : List Row) (new : Row) (e : ChangeFault) → patched_in name patch rows ≡ Some new
    → new.name ≡ name → IsDue e (refusal rows (Replace new)) → IsDue e (refusal rows (Patch name patch))
due_so name patch rows new e made own due =
    subst (IsDue e) (replaces name patch rows new made own ∙ sym (taken_so name patch rows new made)) due

-- and the table after it is that with the row
pub table_so : (name patch : List ℕ) (table now : Table) (new : Row) → patched_in name patch table.rows ≡ Some new
    → now ≡ changed_table table (Replace new) → now ≡ changed_table table (Patch name patch)
table_so name patch table now new made is =
    is ∙ sym (ap (λ (rows : List Row). record { rows = rows; changes = next table.changes }) (changed_so name patch table.rows new made))
