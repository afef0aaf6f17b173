-- The conditions of an APIService, and the patch that says whether it is available (Kubernetes, "Aggregation Layer": the condition
-- `Available` of `apiregistration.k8s.io/v1`; a merge patch as of RFC 7396 replaces the whole list).
use Rattle.std.specs.Prelude.{ℕ, Bool, true, false, not, ◌&&◌, if◌then◌else◌, List, Option, Some, None, option_and_then, codes}
use Rattle.serde_json.specs.Data.{Data, string, array, object, Items, item, no_items, member, no_members}
use Rattle.serde_json.specs.Find.{as_array}
use Rattle.serde_json.specs.Written.{compact_text, items_have_float}
use Rattle.json_value.specs.Members.{inner, is_object, is_text, present}
use Rattle.json_value.specs.Read.{value_of}
use Rattle.apiservice_rows.specs.Row.{Row}

-- ---- what an object says

abbrev pub items_in : Option Items → Items
items_in None = no_items
items_in (Some ds) = ds

-- the conditions of an object; none where it has no list of them
abbrev pub conditions_of : Data → Items
conditions_of d = items_in (option_and_then as_array (inner (codes "status") (codes "conditions") d))

abbrev pub conditions_in : Option Data → Items
conditions_in None = no_items
conditions_in (Some d) = conditions_of d

abbrev pub is_available : Data → Bool
is_available d = is_text (codes "Available") (present (codes "type") d)

-- whether the first condition `Available` has the status `True`, where there is one
abbrev pub told_by : Items → Option Bool
told_by no_items = None
told_by (item d ds) = if is_available d then Some (is_text (codes "True") (present (codes "status") d)) else told_by ds

-- what a row's object says
abbrev pub told_of : Row → Option Bool
told_of row = told_by (conditions_in (value_of row.object))

-- ---- what a patch says

abbrev pub word_of : Bool → List ℕ
word_of up = if up then codes "True" else codes "False"

-- the reasons of kube-aggregator
abbrev pub reason_of : Bool → List ℕ
reason_of up = if up then codes "Passed" else codes "FailedDiscoveryCheck"

-- what is told: whether it is available, why, and since when, as a moment's text
pub record Report : Type 0 where
  pub up : Bool
  pub message : List ℕ
  pub since : List ℕ

-- the condition that says it
abbrev pub condition_of : Report → Data
condition_of r =
    object (member (codes "lastTransitionTime") (string r.since) (member (codes "message") (string r.message)
    (member (codes "reason") (string (reason_of r.up)) (member (codes "status") (string (word_of r.up))
    (member (codes "type") (string (codes "Available")) no_members)))))

abbrev pub is_other : Data → Bool
is_other d = is_object d && not (is_available d)

-- items, and then others
abbrev pub joined : Items → Items → Items
joined no_items es = es
joined (item d ds) es = item d (joined ds es)

abbrev pub one_if : Bool → Data → Items
one_if true d = item d no_items
one_if false d = no_items

-- the conditions of other types
abbrev pub others : Items → Items
others no_items = no_items
others (item d ds) = joined (one_if (is_other d) d) (others ds)

-- one condition, and the others where no number in them has a fraction, as no APIService has one
abbrev pub with_others : Data → Items → Items
with_others own ds = item own (if items_have_float (others ds) then no_items else others ds)

-- the patch of these conditions
abbrev pub patch_of : Items → Data
patch_of ds = object (member (codes "status") (object (member (codes "conditions") (array ds) no_members)) no_members)

-- the patch by what a row's object says
abbrev pub row_patch : Row → Report → Data
row_patch row r = patch_of (with_others (condition_of r) (conditions_in (value_of row.object)))

abbrev pub patch_text : Row → Report → List ℕ
patch_text row r = compact_text (row_patch row r)
