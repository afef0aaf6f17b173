-- What a request wants, before any table is seen (Kubernetes, "API Aggregation Layer").
use Rattle.std.specs.Prelude.{ℕ, ◌||◌, ◌&&◌, not, Bool, true, false, if◌then◌else◌, List, Option, Some, None, Result, Ok, Err, codes}
use Rattle.std.specs.List.{list_any}
use Rattle.front_base.specs.declared.info.Info.{Info}
use Rattle.front_base.specs.declared.user.User.{User}
use Rattle.http_edge.specs.declared.request.Request.{Request}
use Rattle.http_head.specs.Connection.{has_only}
use Rattle.http_head.specs.Name.{is_named}
use Rattle.http_head.specs.declared.header.Header.{Header}
use Rattle.http_head.specs.declared.request.Head.{Head}
use Rattle.local_replies.specs.Errand.{local_errand}
use Rattle.local_replies.specs.Paths.{local_of}
use Rattle.local_replies.specs.declared.local.Local.{Local}
use Rattle.local_replies.specs.declared.local.Local.TheVariants as local
use Rattle.local_replies.specs.declared.local.Local.TheVariants.{Health, GroupList, OneGroup, ResourceList, AllServices, OneService, ServicesNamed}
use Rattle.request_info.specs.Request.{info_of, audit_info}
use Rattle.request_info.specs.Selection.{selected_name}
use Rattle.request_info.specs.declared.fault.InfoFault.{InfoFault}
use Rattle.stage_event.specs.Views.{or_own}
use Rattle.token_users.specs.Act.{act_of}
use Rattle.token_users.specs.Who.{who, user_of}
use Rattle.token_users.specs.declared.acting.Act.{Act}
use Rattle.token_users.specs.declared.acting.Act.TheVariants.{Own, As, Unserved, Bad, Forbidden}
use Rattle.token_users.specs.declared.asker.Who.{Who}
use Rattle.token_users.specs.declared.asker.Who.TheVariants.{Known, Anonymous, BadToken}
use Rattle.audit_core.specs.Route.{Route, route_of}
use Rattle.audit_core.specs.Unread.{is_unread}
use Rattle.audit_core.specs.declared.attributes.Attributes.{Attributes}
use Rattle.audit_core.specs.declared.errand.Errand.{Errand}
use Rattle.audit_core.specs.declared.errand.Errand.TheVariants as errand
use Rattle.audit_core.specs.declared.settings.Settings.{Settings}

-- ---- who asks for what

abbrev pub asker : Settings → Request → Who
asker set r = who set.tokens r.head

-- the user that authenticated, by whom the policy's rules go
unfoldable pub user_in : Settings → Request → User
user_in set r = user_of (asker set r)

-- as whom it asks to act
unfoldable pub act_in : Settings → Request → Act
act_in set r = act_of (asker set r) r.head

abbrev pub other_of : Act → Option User
other_of Own = None
other_of (As user) = Some user
other_of Unserved = None
other_of Bad = None
other_of Forbidden = None

-- the other user that it acts as, if it does
abbrev pub acting_in : Settings → Request → Option User
acting_in set r = other_of (act_in set r)

-- the user as whom it is served: who may write here, and whom a backend is told
abbrev pub effective_in : Settings → Request → User
effective_in set r = or_own (acting_in set r) (user_in set r)

-- what it asks for, as it is recorded
unfoldable pub info_in : Request → Info
info_in r = audit_info r.head.method r.head.target

-- all of it
abbrev pub attributes_in : Settings → Request → Attributes
attributes_in set r = record { info = info_in r; user = user_in set r; acting = acting_in set r }

-- ---- why the request alone is refused

-- its target is no path, or names no kind of resource
abbrev pub is_refused : Result Info InfoFault → Bool
is_refused (Ok info) = false
is_refused (Err fault) = true

-- that, or it asks for less than is read of it
abbrev pub is_bad : Request → Bool
is_bad r = is_refused (info_of r.head.method r.head.target) || is_unread (info_in r).path r.head.target

-- its token is nobody's
abbrev pub is_unknown : Who → Bool
is_unknown (Known user) = false
is_unknown Anonymous = false
is_unknown BadToken = true

-- a header asks for another protocol than HTTP/2, which need not be answered (RFC 9110, section 7.8)
abbrev pub is_upgrade : Header → Bool
is_upgrade header = is_named (codes "upgrade") header.name && not (has_only (codes "h2c") header.value)

-- the code of the refusal of what it asks to act as, if that is refused
abbrev pub act_refusal : Act → Option ℕ
act_refusal Own = None
act_refusal (As user) = None
act_refusal Unserved = Some 501
act_refusal Bad = Some 400
act_refusal Forbidden = Some 403

-- ---- what it wants

-- the API that a path leads to, and what is not an API's otherwise
abbrev pub route_errand : Option Route → Errand
route_errand None = errand.Other
route_errand (Some route) = errand.Route route.group route.version

-- what this server does itself for that user, and an API otherwise
abbrev pub path_errand : Info → Head → ℕ → List ℕ → User → Option Local → Errand
path_errand info head moment body user (Some local) = errand.Serve local (local_errand local info head moment body user)
path_errand info head moment body user None = route_errand (route_of info.path)

abbrev pub unless_refused : Option ℕ → Errand → Errand
unless_refused None own = own
unless_refused (Some code) own = errand.Refuse code

-- the first that stands in the way of a request, and otherwise what its path names
abbrev pub first_errand : Bool → Bool → Bool → Option ℕ → Errand → Errand
first_errand bad unknown upgrade refused own =
    if bad then errand.Refuse 400
    else if unknown then errand.Refuse 401
    else if upgrade then errand.Refuse 501
    else unless_refused refused own

-- a selector of one name narrows the list of APIServices
abbrev pub services_by : Option (List ℕ) → Local
services_by None = AllServices
services_by (Some name) = ServicesNamed name

abbrev pub narrowed : List ℕ → Local → Local
narrowed target Health = Health
narrowed target GroupList = GroupList
narrowed target (OneGroup name) = OneGroup name
narrowed target ResourceList = ResourceList
narrowed target AllServices = services_by (selected_name target)
narrowed target (OneService name) = OneService name
narrowed target (ServicesNamed name) = ServicesNamed name
narrowed target local.Unserved = local.Unserved

abbrev pub narrowed_if_any : List ℕ → Option Local → Option Local
narrowed_if_any target None = None
narrowed_if_any target (Some local) = Some (narrowed target local)

-- the local path that a target is, by its path and what its query selects
unfoldable pub local_in : List ℕ → List ℕ → Option Local
local_in path target = narrowed_if_any target (local_of path)

-- what its path names
abbrev pub own_errand : Settings → Request → ℕ → Errand
own_errand set r moment =
    path_errand (info_in r) r.head moment r.body (effective_in set r) (local_in (info_in r).path r.head.target)

-- what a request wants that was read at that moment: the moment is part of it where it asks for a Table
unfoldable pub errand_in : Settings → Request → ℕ → Errand
errand_in set r moment =
    first_errand
    (is_bad r)
    (is_unknown (asker set r))
    (list_any is_upgrade r.head.headers)
    (act_refusal (act_in set r))
    (own_errand set r moment)
