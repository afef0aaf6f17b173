-- The kinds of local paths, which a router can keep.
use Rattle.std.specs.Prelude.{ℕ, List, [], codes, unwrap_or, Option, option_map}
use Rattle.local_replies.specs.Paths.{behind}
use Rattle.local_replies.specs.declared.kind.Kind.{Kind}
use Rattle.local_replies.specs.declared.kind.Kind.TheVariants as kind
use Rattle.local_replies.specs.declared.local.Local.{Local}
use Rattle.local_replies.specs.declared.local.Local.TheVariants.{Health, GroupList, OneGroup, ResourceList, AllServices, OneService, Unserved}

-- what a text has after a prefix, or nothing
abbrev pub rest_of : List ℕ → List ℕ → List ℕ
rest_of front text = unwrap_or (behind front text) []

-- the local path of that kind that a text is
abbrev pub local_at : Kind → List ℕ → Local
local_at kind.Health text = Health
local_at kind.GroupList text = GroupList
local_at kind.OneGroup text = OneGroup (rest_of (codes "apis/") text)
local_at kind.ResourceList text = ResourceList
local_at kind.AllServices text = AllServices
local_at kind.OneService text = OneService (rest_of (codes "apis/apiregistration.k8s.io/v1/apiservices/") text)
local_at kind.Unserved text = Unserved

-- the local path of a kind that was found for a text
abbrev pub found_at : List ℕ → Option Kind → Option Local
found_at text found = option_map (λ k. local_at k text) found
