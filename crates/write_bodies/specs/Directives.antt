-- The directives of a strategic merge patch, which say how to merge and are no part of the object (Kubernetes, "Update API Objects in
-- Place Using kubectl patch").
use Rattle.std.specs.Prelude.{ℕ, ◌==◌, ◌||◌, Bool, false, List, Option, Some, None}
use Rattle.std.specs.List.{slice_index}
use Rattle.serde_json.specs.Data.{Data, null, boolean, number, string, array, object, Items, no_items, item, Members, no_members, member}

-- a name that begins with `$`
abbrev pub is_directive : List ℕ → Bool
is_directive name = slice_index name 0 == 36

abbrev mutual
  -- a member of that kind, at any depth
  pub has_directive : Data → Bool
  has_directive null = false
  has_directive (boolean b) = false
  has_directive (number n) = false
  has_directive (string s) = false
  has_directive (array ds) = items_have_directive ds
  has_directive (object ms) = members_have_directive ms

  pub items_have_directive : Items → Bool
  items_have_directive no_items = false
  items_have_directive (item d ds) = has_directive d || items_have_directive ds

  pub members_have_directive : Members → Bool
  members_have_directive no_members = false
  members_have_directive (member k d ms) = (is_directive k || has_directive d) || members_have_directive ms

-- what is no JSON has none
abbrev pub directives_in : Option Data → Bool
directives_in None = false
directives_in (Some d) = has_directive d
