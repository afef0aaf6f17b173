-- The documents of discovery, as JSON without white space (Kubernetes, `meta/v1`: APIGroupList, APIGroup).
use Rattle.std.specs.Prelude.{◌≡◌, ℕ, if◌then◌else◌, List, [], ◌∷◌, ◌++◌, map, codes, Option, Some, None}
use Rattle.std.specs.List.{join_with_byte, list_any}
use Rattle.json_span.specs.Quote.{quoted}
use Rattle.apiservice_rows.specs.Row.{Row}
use Rattle.discovery_merge.specs.Groups.{group_of, is_of, sorted_groups}
use Rattle.discovery_merge.specs.declared.groups.Group.{Group}
use Rattle.discovery_merge.specs.declared.documents.GroupFault.{GroupFault}
use Rattle.discovery_merge.specs.declared.documents.GroupFault.TheVariants.{NoGroup, NoMemory}

-- a version of a group (GroupVersionForDiscovery)
unfoldable pub version_text : List ℕ → List ℕ → List ℕ
version_text group version =
    codes "{\"groupVersion\":" ++ (quoted (group ++ 47 ∷ version)
    ++ (codes ",\"version\":" ++ (quoted version ++ codes "}")))

-- the first version is the one to prefer
unfoldable pub first_text : List ℕ → List (List ℕ) → List ℕ
first_text group [] = []
first_text group (version ∷ versions) = version_text group version

-- the members that tell a group
unfoldable pub group_members : Group → List ℕ
group_members g =
    codes "\"name\":" ++ (quoted g.name
    ++ (codes ",\"versions\":[" ++ (join_with_byte 44 (map (version_text g.name) g.versions)
    ++ (codes "],\"preferredVersion\":" ++ first_text g.name g.versions))))

-- a group in a list of groups
unfoldable pub group_item : Group → List ℕ
group_item g = codes "{" ++ (group_members g ++ codes "}")

-- a list of groups
unfoldable pub list_document : List Group → List ℕ
list_document groups =
    codes "{\"kind\":\"APIGroupList\",\"apiVersion\":\"v1\",\"groups\":["
    ++ (join_with_byte 44 (map group_item groups) ++ codes "]}")

-- all groups, in order
unfoldable pub group_list_text : List Row → List ℕ
group_list_text rows = list_document (sorted_groups rows)

-- one group by itself
unfoldable pub group_document : Group → List ℕ
group_document g = codes "{\"kind\":\"APIGroup\",\"apiVersion\":\"v1\"," ++ (group_members g ++ codes "}")

-- the group of that name, where a row has it
unfoldable pub group_text : List ℕ → List Row → Option (List ℕ)
group_text name rows = if list_any (is_of name) rows then Some (group_document (group_of rows name)) else None

-- a refusal that was answered is the one that is due, unless memory ran out
abbrev pub IsDue : GroupFault → Option (List ℕ) → Type 0
IsDue NoGroup text = text ≡ None
IsDue NoMemory text = Unit {0}
