-- What a patch would make of the row of a name.
use Rattle.std.proofs.Common.{◌≡◌, ℕ, List, Option, Some, None, sym, ap, ◌∙◌}
use Rattle.apiservice_rows.specs.Row.{Row}
use Rattle.apiservice_table.specs.Changes.{patched, patched_in, patch_refusal, refusal, unless_made}
use Rattle.apiservice_table.specs.Table.{row_named}
use Rattle.apiservice_table.specs.declared.change.Change.TheVariants.{Patch}
use Rattle.apiservice_table.specs.declared.change.ChangeFault.TheVariants.{Missing}
use Rattle.service_patches.specs.Patches.{patched_row}

-- without a row of the name there is none to patch
pub missing_is : (name patch : List ℕ) (rows : List Row) → row_named name rows ≡ None → refusal rows (Patch name patch) ≡ Some Missing
missing_is name patch rows none = ap (patch_refusal name patch) none

-- the row that the patch of a row makes
pub made_is : (name patch : List ℕ) (rows : List Row) (own : Row) (new : Option Row) → row_named name rows ≡ Some own
    → new ≡ patched_row name own.object patch → patched_in name patch rows ≡ new
made_is name patch rows own new found e = ap (patched name patch) found ∙ sym e

-- and its refusal, where it makes none
pub refused_is : (name patch : List ℕ) (rows : List Row) (own : Row) (new : Option Row) → row_named name rows ≡ Some own
    → new ≡ patched_row name own.object patch → refusal rows (Patch name patch) ≡ unless_made new
refused_is name patch rows own new found e = ap (patch_refusal name patch) found ∙ ap unless_made (sym e)
