-- Statuses of this server's own replies.
use Rattle.std.proofs.Common.{ℕ, Bool, true, false, if◌then◌else◌, List, Option, Some, None, bytes_eq, codes, arith}
use Rattle.std.specs.List.{list_any}
use Rattle.apiservice_rows.specs.Row.{Row}
use Rattle.apiservice_rows.specs.declared.service.ServiceRef.{ServiceRef}
use Rattle.apiservice_table.specs.Changes as table
use Rattle.apiservice_table.specs.Changes.{changed, left_by}
use Rattle.apiservice_table.specs.Services.{object_named}
use Rattle.apiservice_table.specs.Table.{row, row_named}
use Rattle.apiservice_table.specs.declared.change.Change.{Change}
use Rattle.apiservice_table.specs.declared.change.Change.TheVariants.{Create, Replace, Delete, Patch}
use Rattle.apiservice_table.specs.declared.change.ChangeFault.{ChangeFault}
use Rattle.apiservice_table.specs.declared.change.ChangeFault.TheVariants.{Exists, Missing, Full, Invalid, NoMemory}
use Rattle.audit_core.specs.Errand.{errand_in, first_errand, unless_refused, act_refusal, own_errand, path_errand, route_errand, is_bad, is_unknown, is_upgrade, asker, info_in, act_in, effective_in, local_in}
use Rattle.audit_core.specs.Route.{Route, route_of}
use Rattle.audit_core.specs.Routing.{handling_of, api_of, backend_of, service_at, delegate_at, others_at}
use Rattle.audit_core.specs.declared.errand.Errand.{Errand}
use Rattle.audit_core.specs.declared.errand.Errand.TheVariants as errand
use Rattle.audit_core.specs.declared.settings.Settings.{Settings}
use Rattle.discovery_merge.specs.Documents.{group_text}
use Rattle.exchange_replies.specs.Statuses.{IsStatus, IsFinalErrand, IsFinalLocal, IsFinalHandling}
use Rattle.front_base.specs.declared.address.Address.{Address}
use Rattle.front_base.specs.declared.info.Info.{Info}
use Rattle.front_base.specs.declared.user.User.{User}
use Rattle.http_edge.specs.declared.request.Request.{Request}
use Rattle.http_head.specs.Name.{first_value}
use Rattle.http_head.specs.declared.request.Head.{Head}
use Rattle.local_replies.specs.Errand.{asked_errand, asks_table, local_errand, look_services, looks, by_master, delete, is_directed, is_master, is_patch, create, patch, replace, row_in, list_errand, name_errand, seen_as, served_patch, table_for, table_with, tried_if}
use Rattle.local_replies.specs.Looked.{looked, found}
use Rattle.local_replies.specs.Serve.{local_reply, change_reply, done, refused}
use Rattle.local_replies.specs.Tabulated.{one_table, tabulated}
use Rattle.local_replies.specs.declared.errand.LocalErrand.{LocalErrand}
use Rattle.local_replies.specs.declared.errand.LocalErrand.TheVariants.{Deny, Conflict, Look, Tabulate, Write, Try}
use Rattle.local_replies.specs.declared.local.Local.{Local}
use Rattle.local_replies.specs.declared.local.Local.TheVariants.{Health, GroupList, OneGroup, ResourceList, AllServices, OneService, ServicesNamed, Unserved}
use Rattle.request_info.specs.Query.{query_value}
use Rattle.request_info.specs.Selection.{asks_trial}
use Rattle.service_endpoints.specs.Find.{endpoint_of, others_of}
use Rattle.service_endpoints.specs.declared.endpoint.Endpoint.{Endpoint}
use Rattle.service_tables.specs.Include.{include_object}
use Rattle.service_tables.specs.declared.include.IncludeObject.{IncludeObject}
use Rattle.token_users.specs.declared.acting.Act.{Act}
use Rattle.token_users.specs.declared.acting.Act.TheVariants.{Own, As, Unserved, Bad, Forbidden}
use Rattle.write_bodies.specs.Deletion.{deletion_of}
use Rattle.write_bodies.specs.declared.deletion.Deletion.{Deletion}
use Rattle.write_bodies.specs.declared.deletion.Deletion.TheVariants.{Plain, Trial, Conditional}

-- ---- errands

look_by : (b : Bool) → IsFinalLocal (if b then Look else Deny 405)
look_by true = tt
look_by false = (omega arith, omega arith)

table_by : (include : Option IncludeObject) (moment : ℕ) → IsFinalLocal (table_with include moment)
table_by None moment = (omega arith, omega arith)
table_by (Some include) moment = tt

seen_if : (b : Bool) (table : LocalErrand) → IsFinalLocal table → IsFinalLocal (if b then table else Look)
seen_if true table h = h
seen_if false table h = tt

seen_by : (head : Head) (moment : ℕ) → IsFinalLocal (seen_as head moment)
seen_by head moment =
    seen_if (asks_table (first_value (codes "accept") head.headers)) (table_for head.target moment)
    (table_by (include_object (query_value (codes "includeObject") head.target)) moment)

master_by : (b : Bool) (own : LocalErrand) → IsFinalLocal own → IsFinalLocal (if b then own else Deny 403)
master_by true own h = h
master_by false own h = (omega arith, omega arith)

create_by : (row : Option Row) → IsFinalLocal (create row)
create_by None = (omega arith, omega arith)
create_by (Some row) = tt

replace_if : (b : Bool) (row : Row) → IsFinalLocal (if b then Write (Replace row) else Deny 422)
replace_if true row = tt
replace_if false row = (omega arith, omega arith)

replace_by : (name : List ℕ) (row : Option Row) → IsFinalLocal (replace name row)
replace_by name None = (omega arith, omega arith)
replace_by name (Some row) = replace_if (bytes_eq row.name name) row

if_by : (b : Bool) (these those : LocalErrand) → IsFinalLocal these → IsFinalLocal those → IsFinalLocal (if b then these else those)
if_by true these those h k = h
if_by false these those h k = k

services_by : (head : Head) (moment : ℕ) → IsFinalLocal (look_services head moment)
services_by head moment = if_by (looks head.method) (seen_as head moment) (Deny 405) (seen_by head moment) (omega arith, omega arith)

list_by : (info : Info) (head : Head) (moment : ℕ) (body : List ℕ) (user : User) → IsFinalLocal (list_errand info head moment body user)
unfolding list_errand
list_by info head moment body user =
    if_by (bytes_eq info.verb (codes "watch")) (Deny 405) _ (omega arith, omega arith)
    (if_by (bytes_eq head.method (codes "POST")) (by_master user (create (row_in body))) (look_services head moment)
    (master_by (is_master user) (create (row_in body)) (create_by (row_in body))) (services_by head moment))

served_by : (directed : Bool) (name body : List ℕ) → IsFinalLocal (served_patch directed name body)
served_by true name body = (omega arith, omega arith)
served_by false name body = tt

patch_by : (is directed : Bool) (name body : List ℕ) (user : User) → IsFinalLocal (patch is directed name body user)
patch_by true directed name body user = master_by (is_master user) (served_patch directed name body) (served_by directed name body)
patch_by false directed name body user = (omega arith, omega arith)

delete_by : (name : List ℕ) (deletion : Option Deletion) → IsFinalLocal (delete name deletion)
delete_by name None = (omega arith, omega arith)
delete_by name (Some Plain) = tt
delete_by name (Some Trial) = tt
delete_by name (Some Conditional) = tt

name_by : (name : List ℕ) (head : Head) (moment : ℕ) (body : List ℕ) (user : User) → IsFinalLocal (name_errand name head moment body user)
unfolding name_errand
name_by name head moment body user =
    let is : Bool = is_patch (first_value (codes "content-type") head.headers) in
    let directed : Bool = is_directed (first_value (codes "content-type") head.headers) body in
    if_by (bytes_eq head.method (codes "PUT")) (by_master user (replace name (row_in body))) _
    (master_by (is_master user) (replace name (row_in body)) (replace_by name (row_in body)))
    (if_by (bytes_eq head.method (codes "DELETE")) (by_master user (delete name (deletion_of body))) _
    (master_by (is_master user) (delete name (deletion_of body)) (delete_by name (deletion_of body)))
    (if_by (bytes_eq head.method (codes "PATCH")) (patch is directed name body user) (look_services head moment)
    (patch_by is directed name body user) (services_by head moment)))

asked_by : (local : Local) (info : Info) (head : Head) (moment : ℕ) (body : List ℕ) (user : User) → IsFinalLocal (asked_errand local info head moment body user)
asked_by Health info head moment body user = look_by (looks head.method)
asked_by GroupList info head moment body user = look_by (looks head.method)
asked_by (OneGroup name) info head moment body user = look_by (looks head.method)
asked_by ResourceList info head moment body user = look_by (looks head.method)
asked_by AllServices info head moment body user = list_by info head moment body user
asked_by (OneService name) info head moment body user = name_by name head moment body user
asked_by (ServicesNamed name) info head moment body user =
    if_by (bytes_eq info.verb (codes "watch")) (Deny 405) _ (omega arith, omega arith)
    (if_by (looks head.method) (seen_as head moment) (Deny 400) (seen_by head moment) (omega arith, omega arith))
asked_by Unserved info head moment body user = (omega arith, omega arith)

tried_by : (trial : Bool) (own : LocalErrand) → IsFinalLocal own → IsFinalLocal (tried_if trial own)
tried_by false own h = h
tried_by true (Deny code) h = h
tried_by true (Conflict name) h = h
tried_by true Look h = h
tried_by true (Tabulate include moment) h = h
tried_by true (Write change) h = h
tried_by true (Try change) h = h

local_by : (local : Local) (info : Info) (head : Head) (moment : ℕ) (body : List ℕ) (user : User) → IsFinalLocal (local_errand local info head moment body user)
local_by local info head moment body user =
    tried_by (asks_trial head.target) (asked_errand local info head moment body user) (asked_by local info head moment body user)

route_by : (route : Option Route) → IsFinalErrand (route_errand route)
route_by None = tt
route_by (Some route) = tt

path_by : (info : Info) (head : Head) (moment : ℕ) (body : List ℕ) (user : User) (local : Option Local)
    → IsFinalErrand (path_errand info head moment body user local)
path_by info head moment body user None = route_by (route_of info.path)
path_by info head moment body user (Some local) = local_by local info head moment body user

act_by : (act : Act) (own : Errand) → IsFinalErrand own → IsFinalErrand (unless_refused (act_refusal act) own)
act_by Own own h = h
act_by (As user) own h = h
act_by Unserved own h = (omega arith, omega arith)
act_by Bad own h = (omega arith, omega arith)
act_by Forbidden own h = (omega arith, omega arith)

first_by : (a b c : Bool) (act : Act) (own : Errand) → IsFinalErrand own → IsFinalErrand (first_errand a b c (act_refusal act) own)
first_by true b c act own h = (omega arith, omega arith)
first_by false true c act own h = (omega arith, omega arith)
first_by false false true act own h = (omega arith, omega arith)
first_by false false false act own h = act_by act own h

pub errand_final : (set : Settings) (r : Request) (moment : ℕ) → IsFinalErrand (errand_in set r moment)
unfolding errand_in
errand_final set r moment =
    first_by (is_bad r) (is_unknown (asker set r)) (list_any is_upgrade r.head.headers) (act_in set r) (own_errand set r moment)
    (path_by (info_in r) r.head moment r.body (effective_in set r) (local_in (info_in r).path r.head.target))

-- ---- replies

found_by : (text : Option (List ℕ)) → IsStatus (found text).status
found_by None = (omega arith, omega arith)
found_by (Some text) = (omega arith, omega arith)

looked_by : (local : Local) (rows : List Row) → IsStatus (looked local rows).status
looked_by Health rows = (omega arith, omega arith)
looked_by GroupList rows = (omega arith, omega arith)
looked_by (OneGroup name) rows = found_by (group_text name rows)
looked_by ResourceList rows = (omega arith, omega arith)
looked_by AllServices rows = (omega arith, omega arith)
looked_by (OneService name) rows = found_by (object_named name rows)
looked_by (ServicesNamed name) rows = (omega arith, omega arith)
looked_by Unserved rows = (omega arith, omega arith)

one_by : (include : IncludeObject) (moment : ℕ) (own : Option Row) → IsStatus (one_table include moment own).status
one_by include moment None = (omega arith, omega arith)
one_by include moment (Some own) = (omega arith, omega arith)

tabulated_by : (local : Local) (include : IncludeObject) (moment : ℕ) (rows : List Row) → IsStatus (tabulated local include moment rows).status
tabulated_by Health include moment rows = looked_by Health rows
tabulated_by GroupList include moment rows = looked_by GroupList rows
tabulated_by (OneGroup name) include moment rows = looked_by (OneGroup name) rows
tabulated_by ResourceList include moment rows = looked_by ResourceList rows
tabulated_by AllServices include moment rows = (omega arith, omega arith)
tabulated_by (OneService name) include moment rows = one_by include moment (row_named name rows)
tabulated_by (ServicesNamed name) include moment rows = (omega arith, omega arith)
tabulated_by Unserved include moment rows = looked_by Unserved rows

done_by : (change : Change) (left : Option (List ℕ)) → IsStatus (done change left).status
done_by (Create row) left = (omega arith, omega arith)
done_by (Replace row) left = (omega arith, omega arith)
done_by (Delete name) left = (omega arith, omega arith)
done_by (Patch name text) left = (omega arith, omega arith)

refused_by : (fault : ChangeFault) → IsStatus (refused fault).status
refused_by Exists = (omega arith, omega arith)
refused_by Missing = (omega arith, omega arith)
refused_by Full = (omega arith, omega arith)
refused_by Invalid = (omega arith, omega arith)
refused_by NoMemory = (omega arith, omega arith)

change_by : (rows : List Row) (change : Change) (fault : Option ChangeFault) → IsStatus (change_reply rows change fault).status
change_by rows change None = done_by change (left_by change (changed rows change))
change_by rows change (Some fault) = refused_by fault

reply_by : (rows : List Row) (local : Local) (own : LocalErrand) → IsFinalLocal own → IsStatus (local_reply rows local own).status
reply_by rows local (Deny code) h = h
reply_by rows local (Conflict name) h = (omega arith, omega arith)
reply_by rows local Look h = looked_by local rows
reply_by rows local (Tabulate include moment) h = tabulated_by local include moment rows
reply_by rows local (Write change) h = change_by rows change (table.refusal rows change)
reply_by rows local (Try change) h = change_by rows change (table.refusal rows change)

service_by : (to : ServiceRef) (address : Option Address) → IsFinalHandling (service_at to address)
service_by to None = (omega arith, omega arith)
service_by to (Some address) = tt

delegate_by : (address : Option Address) → IsFinalHandling (delegate_at address)
delegate_by None = (omega arith, omega arith)
delegate_by (Some address) = tt

backend_if : (ends : List Endpoint) (available : Bool) (service : Option ServiceRef) → IsFinalHandling (backend_of ends available service)
backend_if ends available None = delegate_by (endpoint_of ends None)
backend_if ends true (Some to) = service_by to (endpoint_of ends (Some to))
backend_if ends false (Some to) = (omega arith, omega arith)

api_by : (ends : List Endpoint) (own : Option Row) → IsFinalHandling (api_of ends own)
api_by ends None = (omega arith, omega arith)
api_by ends (Some own) = backend_if ends own.available own.service

others_by : (address : Option Address) → IsFinalHandling (others_at address)
others_by None = (omega arith, omega arith)
others_by (Some address) = tt

pub handling_final : (ends : List Endpoint) (rows : List Row) (own : Errand) → IsFinalErrand own → IsFinalHandling (handling_of ends rows own)
handling_final ends rows (errand.Refuse code) h = h
handling_final ends rows (errand.Serve local own) h = reply_by rows local own h
handling_final ends rows (errand.Route group version) h = api_by ends (row group version rows)
handling_final ends rows errand.Other h = others_by (others_of ends)
