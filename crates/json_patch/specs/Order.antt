-- Objects as values have them: the names of each ascend by their bytes, so that none stands twice.
use Rattle.std.specs.Prelude.{◌≡◌, ℕ, List, ⊤}
use Rattle.std.specs.Ordering.{nat_cmp}
use Rattle.std.specs.Cmp.Lexicographic.{slice_cmp}
use Rattle.std.specs.declared.cmp.Ordering.TheVariants.{Less}
use Rattle.serde_json.specs.Data.{Data, null, boolean, number, string, array, object, Members, no_members, member}

-- each name comes after this one
abbrev pub AllAfter : List ℕ → Members → Type 0
AllAfter name no_members = ⊤
AllAfter name (member k d ms) = (slice_cmp nat_cmp name k ≡ Less) × AllAfter name ms

abbrev pub Ascend : Members → Type 0
Ascend no_members = ⊤
Ascend (member k d ms) = AllAfter k ms × Ascend ms

abbrev mutual
  -- an object whose names ascend, and those of the objects in it that a patch may change; other values have no names
  pub IsOrdered : Data → Type 0
  IsOrdered null = ⊤
  IsOrdered (boolean b) = ⊤
  IsOrdered (number n) = ⊤
  IsOrdered (string s) = ⊤
  IsOrdered (array ds) = ⊤
  IsOrdered (object ms) = Ascend ms × AreOrdered ms

  pub AreOrdered : Members → Type 0
  AreOrdered no_members = ⊤
  AreOrdered (member k d ms) = IsOrdered d × AreOrdered ms
