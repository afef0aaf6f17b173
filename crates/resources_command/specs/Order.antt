-- The group versions of a document, in order, and which servers are asked for them.
use Rattle.std.specs.Prelude.{ℕ, if◌then◌else◌, List, [], ◌∷◌, ◌++◌, map, codes, Option, Some, None}
use Rattle.apiservice_rows.specs.Row.{Row}
use Rattle.apiservice_table.specs.Table.{row}
use Rattle.discovery_merge.specs.Groups.{sorted_groups}
use Rattle.discovery_merge.specs.declared.groups.Group.{Group}
use Rattle.front_base.specs.declared.address.Address.{Address}
use Rattle.resource_fetch.specs.Fetched.{Asking, asking}
use Rattle.resource_fetch.specs.Version.{group_version}
use Rattle.resources_command.specs.declared.group_versions.GroupVersion.{GroupVersion}
use Rattle.service_endpoints.specs.Find.{endpoint_of}
use Rattle.service_endpoints.specs.declared.endpoint.Endpoint.{Endpoint}

abbrev pub one_of : List ℕ → List ℕ → GroupVersion
one_of group version = record { group = group; version = version }

-- v1 of the core group, where a row has it
abbrev pub core_of : Option Row → List GroupVersion
core_of None = []
core_of (Some r) = one_of [] (codes "v1") ∷ []

abbrev pub versions_of : Group → List GroupVersion
versions_of group = map (one_of group.name) group.versions

abbrev pub all_versions : List Group → List GroupVersion
all_versions [] = []
all_versions (group ∷ groups) = versions_of group ++ all_versions groups

-- v1 of the core group first, and then the versions of the groups in the order of discovery
unfoldable pub order_of : List Row → List GroupVersion
order_of rows = core_of (row [] (codes "v1") rows) ++ all_versions (sorted_groups rows)

abbrev pub name_of : GroupVersion → List ℕ
name_of own = group_version own.group own.version

-- ---- who is asked

abbrev pub asked_at : Row → Option Address → Option Asking
asked_at r None = None
asked_at r (Some to) = Some (asking r to)

-- a row's server is asked where the row is available and the server has an address
abbrev pub asked_by : List Endpoint → Option Row → Option Asking
asked_by ends None = None
asked_by ends (Some r) = if r.available then asked_at r (endpoint_of ends r.service) else None

abbrev pub asked_of : List Row → List Endpoint → GroupVersion → Option Asking
asked_of rows ends own = asked_by ends (row own.group own.version rows)
