-- JSON Merge Patch (RFC 7396, section 2), of values as they are read: an object has each name once.
use Rattle.std.specs.Prelude.{ℕ, List, if◌then◌else◌, is_some, unwrap_or}
use Rattle.std.specs.Ordering.{nat_cmp, match_ordering}
use Rattle.std.specs.Cmp.Lexicographic.{slice_cmp}
use Rattle.serde_json.specs.Data.{Data, null, boolean, number, string, array, object, Members, no_members, member, put}
use Rattle.serde_json.specs.Find.{get_member, as_null}

-- the members of an object; a target that is no object counts as an empty one
abbrev pub members_in : Data → Members
members_in null = no_members
members_in (boolean b) = no_members
members_in (number n) = no_members
members_in (string s) = no_members
members_in (array ds) = no_members
members_in (object ms) = ms

-- the members whose name is another one
abbrev pub without : List ℕ → Members → Members
without name no_members = no_members
without name (member k d ms) =
    match_ordering (slice_cmp nat_cmp name k) (member k d (without name ms)) (without name ms) (member k d (without name ms))

-- null removes the member of that name; another change stands for this value of it
abbrev pub changed : Members → List ℕ → Data → Data → Members
changed ms name change d = if is_some (as_null change) then without name ms else put name d ms

abbrev pub value_at : List ℕ → Members → Data
value_at name ms = unwrap_or (get_member name ms) null

abbrev mutual
  -- a patch that is no object stands for itself; one that is an object changes the target, member after member
  pub merged : Data → Data → Data
  merged target null = null
  merged target (boolean b) = boolean b
  merged target (number n) = number n
  merged target (string s) = string s
  merged target (array ds) = array ds
  merged target (object changes) = object (merged_members (members_in target) changes)

  pub merged_members : Members → Members → Members
  merged_members ms no_members = ms
  merged_members ms (member name d changes) = merged_members (changed ms name d (merged (value_at name ms) d)) changes
