-- What nobody reads of a policy, and of APIService objects.
use Rattle.std.specs.Prelude.{ℕ, if◌then◌else◌, List, [], Option, Some, None, codes}
use Rattle.serde_json.specs.Data.{Data}
use Rattle.json_value.specs.Members.{present, is_text}
use Rattle.json_value.specs.Read.{value_of}
use Rattle.apiservice_rows.specs.RowList.{is_list}
use Rattle.warned_files.specs.Unread.{unread}
use Rattle.warned_files.specs.declared.kind.Kind.{Kind}
use Rattle.warned_files.specs.declared.kind.Kind.TheVariants.{Policy, ServiceList, Service}

-- ---- what an object is, by its kind

abbrev pub policy_kind : Data → Option Kind
policy_kind d = if is_text (codes "Policy") (present (codes "kind") d) then Some Policy else None

abbrev pub services_kind : Data → Option Kind
services_kind d =
    if is_list d then Some ServiceList
    else if is_text (codes "APIService") (present (codes "kind") d) then Some Service
    else None

-- ---- the places of a file

-- none of an object of another kind
abbrev pub unread_as : Option Kind → Data → List (List ℕ)
unread_as None d = []
unread_as (Some kind) d = unread kind [] d

-- none where the bytes are no JSON
abbrev pub unread_by : (Data → Option Kind) → Option Data → List (List ℕ)
unread_by kind_of None = []
unread_by kind_of (Some d) = unread_as (kind_of d) d

abbrev pub unread_in_policy : List ℕ → List (List ℕ)
unread_in_policy bytes = unread_by policy_kind (value_of bytes)

abbrev pub unread_in_services : List ℕ → List (List ℕ)
unread_in_services bytes = unread_by services_kind (value_of bytes)
