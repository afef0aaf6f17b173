use Rattle.std.proofs.Common.{◌≡◌, ℕ, Bool, true, false, List, Option, None, Some, subst}
use Rattle.std.specs.Prelude.{if◌then◌else◌, codes, ⊤}
use Rattle.std.specs.Str.{bytes_eq}
use Rattle.front_base.specs.declared.info.Info.{Info}
use Rattle.front_base.specs.declared.user.User.{User}
use Rattle.http_head.specs.Name.{first_value}
use Rattle.http_head.specs.declared.request.Head.{Head}
use Rattle.local_replies.specs.Errand.{asked_errand, asks_table, by_master, create, delete, is_directed, is_master, is_patch, list_errand, local_errand, look_only, look_services, looks, name_errand, patch, replace, row_in, seen_as, served_patch, table_for, table_with, tried_if}
use Rattle.local_replies.specs.declared.errand.LocalErrand.{LocalErrand}
use Rattle.local_replies.specs.declared.errand.LocalErrand.TheVariants.{Deny, Conflict, Look, Tabulate, Write, Try}
use Rattle.local_replies.specs.declared.local.Local.{Local}
use Rattle.local_replies.specs.declared.local.Local.TheVariants.{Health, GroupList, OneGroup, ResourceList, AllServices, OneService, ServicesNamed, Unserved}
use Rattle.request_info.specs.Query.{query_value}
use Rattle.request_info.specs.Selection.{asks_trial}
use Rattle.service_tables.specs.Include.{include_object}
use Rattle.service_tables.specs.declared.include.IncludeObject.{IncludeObject}
use Rattle.write_bodies.specs.Deletion.{deletion_of}
use Rattle.local_replies.proofs.laws.only_masters_write.Goals as goal

-- no change is asked for, and none is tried
abbrev IsNoWrite : LocalErrand → Type 0
IsNoWrite (Deny code) = ⊤
IsNoWrite (Conflict name) = ⊤
IsNoWrite Look = ⊤
IsNoWrite (Tabulate include moment) = ⊤
IsNoWrite (Write change) = ⊥
IsNoWrite (Try change) = ⊥

either : (b : Bool) (x y : LocalErrand) → IsNoWrite x → IsNoWrite y → IsNoWrite (if b then x else y)
either true x y h k = h
either false x y h k = k

only_look : (method : List ℕ) → IsNoWrite (look_only method)
only_look method = either (looks method) Look (Deny 405) tt tt

table : (include : Option IncludeObject) (moment : ℕ) → IsNoWrite (table_with include moment)
table None moment = tt
table (Some include) moment = tt

seen : (head : Head) (moment : ℕ) → IsNoWrite (seen_as head moment)
seen head moment =
    either (asks_table (first_value (codes "accept") head.headers)) (table_for head.target moment) Look
    (table (include_object (query_value (codes "includeObject") head.target)) moment) tt

services : (head : Head) (moment : ℕ) → IsNoWrite (look_services head moment)
services head moment = either (looks head.method) (seen_as head moment) (Deny 405) (seen head moment) tt

stranger : (b : Bool) (x : LocalErrand) → b ≡ false → IsNoWrite (if b then x else Deny 403)
stranger true x e = absurd (cc e)
stranger false x e = tt

of_list : (info : Info) (head : Head) (moment : ℕ) (body : List ℕ) (user : User) → is_master user ≡ false
    → IsNoWrite (list_errand info head moment body user)
unfolding list_errand
of_list info head moment body user e =
    either (bytes_eq info.verb (codes "watch")) (Deny 405) _ tt
    (either (bytes_eq head.method (codes "POST")) (by_master user (create (row_in body))) (look_services head moment)
    (stranger (is_master user) (create (row_in body)) e) (services head moment))

of_patch : (is directed : Bool) (name body : List ℕ) (user : User) → is_master user ≡ false
    → IsNoWrite (patch is directed name body user)
of_patch is directed name body user e =
    either is (by_master user (served_patch directed name body)) (Deny 415)
    (stranger (is_master user) (served_patch directed name body) e) tt

of_name : (name : List ℕ) (head : Head) (moment : ℕ) (body : List ℕ) (user : User) → is_master user ≡ false
    → IsNoWrite (name_errand name head moment body user)
unfolding name_errand
of_name name head moment body user e =
    let is : Bool = is_patch (first_value (codes "content-type") head.headers) in
    let directed : Bool = is_directed (first_value (codes "content-type") head.headers) body in
    either (bytes_eq head.method (codes "PUT")) (by_master user (replace name (row_in body))) _
    (stranger (is_master user) (replace name (row_in body)) e)
    (either (bytes_eq head.method (codes "DELETE")) (by_master user (delete name (deletion_of body))) _
    (stranger (is_master user) (delete name (deletion_of body)) e)
    (either (bytes_eq head.method (codes "PATCH")) (patch is directed name body user) (look_services head moment)
    (of_patch is directed name body user e) (services head moment)))

no_write : (local : Local) (info : Info) (head : Head) (moment : ℕ) (body : List ℕ) (user : User) → is_master user ≡ false
    → IsNoWrite (asked_errand local info head moment body user)
no_write Health info head moment body user e = only_look head.method
no_write GroupList info head moment body user e = only_look head.method
no_write (OneGroup name) info head moment body user e = only_look head.method
no_write ResourceList info head moment body user e = only_look head.method
no_write AllServices info head moment body user e = of_list info head moment body user e
no_write (OneService name) info head moment body user e = of_name name head moment body user e
no_write (ServicesNamed name) info head moment body user e =
    either (bytes_eq info.verb (codes "watch")) (Deny 405) _ tt
    (either (looks head.method) (seen_as head moment) (Deny 400) (seen head moment) tt)
no_write Unserved info head moment body user e = tt

tried_too : (trial : Bool) (own : LocalErrand) → IsNoWrite own → IsNoWrite (tried_if trial own)
tried_too false own h = h
tried_too true (Deny code) h = h
tried_too true (Conflict name) h = h
tried_too true Look h = h
tried_too true (Tabulate include moment) h = h
tried_too true (Write change) h = h
tried_too true (Try change) h = h

none_wanted : (local : Local) (info : Info) (head : Head) (moment : ℕ) (body : List ℕ) (user : User) → is_master user ≡ false
    → IsNoWrite (local_errand local info head moment body user)
none_wanted local info head moment body user e =
    tried_too (asks_trial head.target) (asked_errand local info head moment body user) (no_write local info head moment body user e)

pub returns : goal.returns
returns c = record {
  write = λ local info head moment body user change e is. subst IsNoWrite is (none_wanted local info head moment body user e);
  trial = λ local info head moment body user change e is. subst IsNoWrite is (none_wanted local info head moment body user e);
}
