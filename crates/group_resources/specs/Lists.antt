-- The list of a group version's resources, as a server of APIs answers it (Kubernetes, `meta/v1`: APIResourceList).
use Rattle.std.specs.Prelude.{◌≡◌, ℕ, ◌==◌, ◌≤◌, Bool, true, false, if◌then◌else◌, List, [], ◌∷◌, codes, length, bytes_eq, Option, Some, None}
use Rattle.json_span.specs.Member.{in_quotes}
use Rattle.json_span.specs.Quote.{quoted}
use Rattle.json_span.specs.Value.{Value, token, array, object, Items, Members, no_members, member, StandsFor, flat}
use Rattle.group_resources.specs.declared.list.TheConstants.{MOST_LIST_BYTES}

-- the value of the first of some members whose name is spelled so
abbrev pub member_of : List ℕ → Members → Option Value
member_of name no_members = None
member_of name (member n v others) = if bytes_eq n (in_quotes name) then Some v else member_of name others

-- the same of an object; no other value has one
abbrev pub value_of : List ℕ → Value → Option Value
value_of name (token t) = None
value_of name (array items) = None
value_of name (object members) = member_of name members

-- a text, spelled as `quoted` spells it
abbrev pub text_of : List ℕ → Value
text_of text = token (quoted text)

-- an object says of the group version that it has these resources
pub record SaysOf (version : List ℕ) (value : Value) (resources : List ℕ) : Type 0 where
  pub kind_is : value_of (codes "kind") value ≡ Some (text_of (codes "APIResourceList"))
  pub version_is : value_of (codes "groupVersion") value ≡ Some (text_of version)
  pub items : Items
  pub list_is : value_of (codes "resources") value ≡ Some (array items)
  pub resources_are : resources ≡ flat (array items)

-- a reply of that status and that body does
pub record Lists (version : List ℕ) (status : ℕ) (body resources : List ℕ) : Type 0 where
  pub found : status ≡ 200
  pub small : length body ≤ MOST_LIST_BYTES
  pub value : Value
  pub stands : StandsFor body value
  pub says : SaysOf version value resources

-- what is listed, if anything is
abbrev pub IsListed : List ℕ → ℕ → List ℕ → Option (List ℕ) → Type 0
IsListed version status body (Some resources) = Lists version status body resources
IsListed version status body None = (resources : List ℕ) → Lists version status body resources → ⊥

-- ---- for private clauses

-- the first byte is that
abbrev pub begins : ℕ → List ℕ → Bool
begins mark [] = false
begins mark (b ∷ bytes) = b == mark

-- what a value says
abbrev pub IsSaid : List ℕ → Value → Option (List ℕ) → Type 0
IsSaid version value (Some resources) = SaysOf version value resources
IsSaid version value None = (resources : List ℕ) → SaysOf version value resources → ⊥

-- a member is that text, or it isn't
abbrev pub IsText : Option Value → List ℕ → Bool → Type 0
IsText found text true = found ≡ Some (text_of text)
IsText found text false = found ≡ Some (text_of text) → ⊥

-- a member is an array with that text, or none
abbrev pub IsArrayOf : Option Value → Option (List ℕ) → Type 0
IsArrayOf found (Some text) = (items : Items) × (found ≡ Some (array items)) × (text ≡ flat (array items))
IsArrayOf found None = (items : Items) → found ≡ Some (array items) → ⊥
