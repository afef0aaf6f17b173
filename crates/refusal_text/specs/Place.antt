-- Where in a file a fault is, in the terms of the file's format.
use Rattle.std.specs.Prelude.{ℕ, ◌+◌, ◌&&◌, ◌||◌, Bool, if◌then◌else◌, List, [], ◌++◌, Option, Some, None, is_some, codes}
use Rattle.std.specs.Fmt.{decimal}
use Rattle.std.specs.Str.{bytes_eq}
use Rattle.apiservice_rows.specs.declared.fault.RowFault.{RowFault}
use Rattle.apiservice_rows.specs.declared.fault.RowFault.TheVariants as row
use Rattle.front_config.specs.declared.fault.FileFault.{FileFault}
use Rattle.front_config.specs.declared.fault.FileFault.TheVariants.{TooLong, NotJson, Token, PolicyFile, RowsFile, Endpoint}
use Rattle.policy_json.specs.declared.fault.PolicyFault.{PolicyFault}
use Rattle.policy_json.specs.declared.fault.PolicyFault.TheVariants as policy

-- `LIST[PLACE]`, counted from 0, or nothing for what stands in no list
abbrev pub element : List ℕ → Option ℕ → List ℕ
element list None = []
element list (Some i) = list ++ (codes "[" ++ (decimal i ++ codes "]"))

-- `LIST[PLACE].MEMBER`, or `MEMBER`
abbrev pub member_of : List ℕ → Option ℕ → List ℕ → List ℕ
member_of list None member = member
member_of list (Some i) member = list ++ (codes "[" ++ (decimal i ++ (codes "]." ++ member)))

-- a fault of a rule as a whole, or of the whole policy
abbrev pub is_whole : Option ℕ → List ℕ → Bool
is_whole place name = bytes_eq name (codes "number") || is_some place && bytes_eq name (codes "rules")

abbrev pub policy_place : PolicyFault → List ℕ
policy_place policy.NotJson = []
policy_place policy.NoRules = codes "rules"
policy_place (policy.BadField rule name) =
    if is_whole rule name then element (codes "rules") rule else member_of (codes "rules") rule name
policy_place (policy.BothKinds rule) = element (codes "rules") (Some rule)
policy_place (policy.BadUrl rule) = member_of (codes "rules") (Some rule) (codes "nonResourceURLs")
policy_place (policy.NamesWithoutResources rule) = member_of (codes "rules") (Some rule) (codes "resources")
policy_place policy.NoMemory = []

abbrev pub row_place : RowFault → List ℕ
row_place row.NotJson = []
row_place (row.BadField item member) =
    if bytes_eq member (codes "number") then element (codes "items") item else member_of (codes "items") item member
row_place (row.NameMismatch item) = member_of (codes "items") item (codes "metadata.name")
row_place (row.Range item member) = member_of (codes "items") item member
row_place (row.Repeated item name) = member_of (codes "items") (Some item) (codes "metadata.name")
row_place row.Full = codes "items"
row_place row.NoMemory = []

-- records are counted from 1
abbrev pub place_of : FileFault → List ℕ
place_of TooLong = []
place_of (NotJson bytes) = []
place_of (Token n why) = codes "record " ++ decimal (n + 1)
place_of (PolicyFile fault) = policy_place fault
place_of (RowsFile fault) = row_place fault
place_of (Endpoint n why) = codes "record " ++ decimal (n + 1)
