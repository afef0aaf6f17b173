-- What a request on a local path wants, before any row is looked at (Kubernetes, "API concepts" and the API of
-- APIServices).
use Rattle.std.specs.Prelude.{ℕ, ◌||◌, ◌&&◌, ◌==◌, Bool, false, if◌then◌else◌, List, Option, Some, None, Result, Ok, Err, codes}
use Rattle.std.specs.List.{before_first, list_any}
use Rattle.std.specs.Str.{bytes_eq}
use Rattle.apiservice_columns.specs.Accept.{asks_for_table}
use Rattle.apiservice_rows.specs.Object.{read_row}
use Rattle.apiservice_rows.specs.Row.{Row}
use Rattle.apiservice_rows.specs.declared.fault.RowFault.{RowFault}
use Rattle.apiservice_table.specs.declared.change.Change.TheVariants.{Create, Replace, Delete, Patch}
use Rattle.front_base.specs.declared.info.Info.{Info}
use Rattle.front_base.specs.declared.user.User.{User}
use Rattle.http_head.specs.Connection.{has_only}
use Rattle.http_head.specs.Name.{first_value}
use Rattle.http_head.specs.declared.request.Head.{Head}
use Rattle.json_value.specs.Read.{value_of}
use Rattle.local_replies.specs.declared.errand.LocalErrand.{LocalErrand}
use Rattle.local_replies.specs.declared.errand.LocalErrand.TheVariants.{Deny, Conflict, Look, Tabulate, Write, Try}
use Rattle.local_replies.specs.declared.local.Local.{Local}
use Rattle.local_replies.specs.declared.local.Local.TheVariants.{Health, GroupList, OneGroup, ResourceList, AllServices, OneService, ServicesNamed, Unserved}
use Rattle.request_info.specs.Query.{query_value}
use Rattle.request_info.specs.Selection.{asks_trial}
use Rattle.service_tables.specs.Include.{include_object}
use Rattle.service_tables.specs.declared.include.IncludeObject.{IncludeObject}
use Rattle.write_bodies.specs.Deletion.{deletion_of}
use Rattle.write_bodies.specs.Directives.{directives_in}
use Rattle.write_bodies.specs.declared.deletion.Deletion.{Deletion}
use Rattle.write_bodies.specs.declared.deletion.Deletion.TheVariants.{Plain, Trial, Conditional}

-- the methods that only look (RFC 9110, sections 9.3.1 and 9.3.2)
abbrev pub looks : List ℕ → Bool
looks method = bytes_eq method (codes "GET") || bytes_eq method (codes "HEAD")

-- a look, and no other method
abbrev pub look_only : List ℕ → LocalErrand
look_only method = if looks method then Look else Deny 405

-- the Accept header that stands first asks for a Table
abbrev pub asks_table : Option (List ℕ) → Bool
asks_table None = false
asks_table (Some value) = asks_for_table value

-- a Table whose rows carry that of their objects, and the refusal where what is asked for names no policy
abbrev pub table_with : Option IncludeObject → ℕ → LocalErrand
table_with None moment = Deny 400
table_with (Some include) moment = Tabulate include moment

-- a Table at that moment, by the first `includeObject` of the target's query
abbrev pub table_for : List ℕ → ℕ → LocalErrand
table_for target moment = table_with (include_object (query_value (codes "includeObject") target)) moment

-- a look at APIServices in the form that is asked for: as a Table at that moment, or as they are stored
abbrev pub seen_as : Head → ℕ → LocalErrand
seen_as head moment = if asks_table (first_value (codes "accept") head.headers) then table_for head.target moment else Look

-- such a look, and no other method
abbrev pub look_services : Head → ℕ → LocalErrand
look_services head moment = if looks head.method then seen_as head moment else Deny 405

-- one of the group that may do everything (Kubernetes, "Using RBAC Authorization": default roles)
abbrev pub is_master : User → Bool
is_master user = list_any (λ group. bytes_eq group (codes "system:masters")) user.groups

-- what only those may do
abbrev pub by_master : User → LocalErrand → LocalErrand
by_master user errand = if is_master user then errand else Deny 403

-- the row that was read, if it was
abbrev pub row_of : Result Row RowFault → Option Row
row_of (Ok row) = Some row
row_of (Err fault) = None

-- the row of a body
abbrev pub row_in : List ℕ → Option Row
row_in body = row_of (read_row body)

-- a row comes in
abbrev pub create : Option Row → LocalErrand
create None = Deny 422
create (Some row) = Write (Create row)

-- a row comes in the place of the one of its name, which is the path's
abbrev pub replace : List ℕ → Option Row → LocalErrand
replace name None = Deny 422
replace name (Some row) = if bytes_eq row.name name then Write (Replace row) else Deny 422

-- on all APIServices: a POST creates one, and watching them isn't served
unfoldable pub list_errand : Info → Head → ℕ → List ℕ → User → LocalErrand
list_errand info head moment body user =
    if bytes_eq info.verb (codes "watch") then Deny 405
    else if bytes_eq head.method (codes "POST") then by_master user (create (row_in body))
    else look_services head moment

-- the media type of a Content-Type, its parameters apart (RFC 9110, section 8.3)
abbrev pub type_of : List ℕ → List ℕ
type_of value = before_first (λ b. b == 59) value

-- that type, in whatever case and with blanks round it; a type that a list names again and again is that type
abbrev pub is_type : List ℕ → Option (List ℕ) → Bool
is_type name None = false
is_type name (Some value) = has_only name (type_of value)

-- that of a merge patch (RFC 7396, section 4)
abbrev pub is_merge_patch : Option (List ℕ) → Bool
is_merge_patch value = is_type (codes "application/merge-patch+json") value

-- that of a strategic merge patch (Kubernetes, "Update API Objects in Place Using kubectl patch")
abbrev pub is_strategic_patch : Option (List ℕ) → Bool
is_strategic_patch value = is_type (codes "application/strategic-merge-patch+json") value

-- one of them
abbrev pub is_patch : Option (List ℕ) → Bool
is_patch value = is_merge_patch value || is_strategic_patch value

-- a strategic merge patch with directives, which aren't served
abbrev pub is_directed : Option (List ℕ) → List ℕ → Bool
is_directed value body = is_strategic_patch value && directives_in (value_of body)

-- a patch comes to the object of that name. A strategic merge patch without directives is served as a merge patch
abbrev pub served_patch : Bool → List ℕ → List ℕ → LocalErrand
served_patch directed name body = if directed then Deny 415 else Write (Patch name body)

-- patches of other kinds aren't served, whoever sends them
abbrev pub patch : Bool → Bool → List ℕ → List ℕ → User → LocalErrand
patch is directed name body user = if is then by_master user (served_patch directed name body) else Deny 415

-- the object of that name goes, as the options say. This server gives none a `uid` or a `resourceVersion`, so no condition on them holds
abbrev pub delete : List ℕ → Option Deletion → LocalErrand
delete name None = Deny 400
delete name (Some Plain) = Write (Delete name)
delete name (Some Trial) = Try (Delete name)
delete name (Some Conditional) = Conflict name

-- on one APIService: a PUT replaces it, a DELETE deletes it as the options in its body say, and a PATCH has its body made of it
unfoldable pub name_errand : List ℕ → Head → ℕ → List ℕ → User → LocalErrand
name_errand name head moment body user =
    if bytes_eq head.method (codes "PUT") then by_master user (replace name (row_in body))
    else if bytes_eq head.method (codes "DELETE") then by_master user (delete name (deletion_of body))
    else if bytes_eq head.method (codes "PATCH") then
    patch (is_patch (first_value (codes "content-type") head.headers))
    (is_directed (first_value (codes "content-type") head.headers) body) name body user
    else look_services head moment

-- on the list of the APIService of a name: it is looked at, and watching it isn't served. Other requests have no field selector
abbrev pub listed_errand : Info → Head → ℕ → LocalErrand
listed_errand info head moment =
    if bytes_eq info.verb (codes "watch") then Deny 405
    else if looks head.method then seen_as head moment
    else Deny 400

-- what a request wants that was read at that moment, whatever its query asks for: a refusal, a look, or a change
abbrev pub asked_errand : Local → Info → Head → ℕ → List ℕ → User → LocalErrand
asked_errand Health info head moment body user = look_only head.method
asked_errand GroupList info head moment body user = look_only head.method
asked_errand (OneGroup name) info head moment body user = look_only head.method
asked_errand ResourceList info head moment body user = look_only head.method
asked_errand AllServices info head moment body user = list_errand info head moment body user
asked_errand (OneService name) info head moment body user = name_errand name head moment body user
asked_errand (ServicesNamed name) info head moment body user = listed_errand info head moment
asked_errand Unserved info head moment body user = Deny 404

-- a change that is wanted is tried only; what else is wanted is wanted as ever
abbrev pub tried : LocalErrand → LocalErrand
tried (Deny code) = Deny code
tried (Conflict name) = Conflict name
tried Look = Look
tried (Tabulate include moment) = Tabulate include moment
tried (Write change) = Try change
tried (Try change) = Try change

abbrev pub tried_if : Bool → LocalErrand → LocalErrand
tried_if trial own = if trial then tried own else own

-- what it wants: where its query asks for a dry run, no change is made
abbrev pub local_errand : Local → Info → Head → ℕ → List ℕ → User → LocalErrand
local_errand local info head moment body user =
    tried_if (asks_trial head.target) (asked_errand local info head moment body user)
