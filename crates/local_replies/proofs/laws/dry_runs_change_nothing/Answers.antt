use Rattle.std.proofs.Common.{◌≡◌, ℕ, Bool, true, false, List, Option, None, Some, refl, sym, ap, subst, ◌∙◌}
use Rattle.std.specs.Prelude.{if◌then◌else◌, codes, ⊤}
use Rattle.std.specs.Str.{bytes_eq}
use Rattle.apiservice_rows.specs.Row.{Row}
use Rattle.apiservice_table.specs.declared.change.Change.TheVariants.{Delete}
use Rattle.front_base.specs.declared.info.Info.{Info}
use Rattle.front_base.specs.declared.user.User.{User}
use Rattle.http_head.specs.Name.{first_value}
use Rattle.http_head.specs.declared.header.Header.{Header}
use Rattle.http_head.specs.declared.request.Head.{Head}
use Rattle.local_replies.specs.Errand.{asked_errand, asks_table, by_master, create, delete, is_directed, is_master, is_patch, list_errand, look_services, looks, name_errand, patch, replace, row_in, seen_as, table_for, table_with, tried, tried_if}
use Rattle.local_replies.specs.Serve.{local_reply, rows_after}
use Rattle.local_replies.specs.declared.errand.LocalErrand.{LocalErrand}
use Rattle.local_replies.specs.declared.errand.LocalErrand.TheVariants.{Deny, Conflict, Look, Tabulate, Write, Try}
use Rattle.local_replies.specs.declared.local.Local.{Local}
use Rattle.local_replies.specs.declared.local.Local.TheVariants.{Health, GroupList, OneGroup, ResourceList, AllServices, OneService, ServicesNamed, Unserved}
use Rattle.request_info.specs.Query.{query_value}
use Rattle.request_info.specs.Selection.{asks_trial}
use Rattle.service_tables.specs.Include.{include_object}
use Rattle.service_tables.specs.declared.include.IncludeObject.{IncludeObject}
use Rattle.write_bodies.specs.Deletion.{deletion_of}
use Rattle.write_bodies.specs.declared.deletion.Deletion.TheVariants.{Trial}
use Rattle.local_replies.proofs.laws.dry_runs_change_nothing.Goals as goal

-- ---- no change is asked for

abbrev IsNoWrite : LocalErrand → Type 0
IsNoWrite (Deny code) = ⊤
IsNoWrite (Conflict name) = ⊤
IsNoWrite Look = ⊤
IsNoWrite (Tabulate include moment) = ⊤
IsNoWrite (Write change) = ⊥
IsNoWrite (Try change) = ⊤

tried_writes_not : (own : LocalErrand) → IsNoWrite (tried own)
tried_writes_not (Deny code) = tt
tried_writes_not (Conflict name) = tt
tried_writes_not Look = tt
tried_writes_not (Tabulate include moment) = tt
tried_writes_not (Write change) = tt
tried_writes_not (Try change) = tt

tried_if_not : (trial : Bool) (own : LocalErrand) → IsNoWrite own → IsNoWrite (tried_if trial own)
tried_if_not true own h = tried_writes_not own
tried_if_not false own h = h

either : (b : Bool) (x y : LocalErrand) → IsNoWrite x → IsNoWrite y → IsNoWrite (if b then x else y)
either true x y h k = h
either false x y h k = k

table : (include : Option IncludeObject) (moment : ℕ) → IsNoWrite (table_with include moment)
table None moment = tt
table (Some include) moment = tt

seen : (head : Head) (moment : ℕ) → IsNoWrite (seen_as head moment)
seen head moment =
    either (asks_table (first_value (codes "accept") head.headers)) (table_for head.target moment) Look
    (table (include_object (query_value (codes "includeObject") head.target)) moment) tt

services : (head : Head) (moment : ℕ) → IsNoWrite (look_services head moment)
services head moment = either (looks head.method) (seen_as head moment) (Deny 405) (seen head moment) tt

otherwise : (b : Bool) (x y : LocalErrand) → b ≡ false → IsNoWrite y → IsNoWrite (if b then x else y)
otherwise true x y e h = absurd (cc e)
otherwise false x y e h = h

second : (put gone : Bool) (x y z : LocalErrand) → put ≡ false → gone ≡ true → (if put then x else if gone then y else z) ≡ y
second true gone x y z p d = absurd (cc p)
second false true x y z p d = refl
second false false x y z p d = absurd (cc d)

-- a DELETE whose options ask for a dry run
module _ (info : Info) (head : Head) (moment : ℕ) (body : List ℕ) (user : User)
    (method : head.method ≡ codes "DELETE") (asks : deletion_of body ≡ Some Trial) where
  of_list : IsNoWrite (list_errand info head moment body user)
  unfolding list_errand
  of_list =
      either (bytes_eq info.verb (codes "watch")) (Deny 405) _ tt
      (otherwise (bytes_eq head.method (codes "POST")) _ (look_services head moment)
      (ap (λ (m : List ℕ). bytes_eq m (codes "POST")) method) (services head moment))

  of_name : (name : List ℕ) → name_errand name head moment body user ≡ by_master user (Try (Delete name))
  unfolding name_errand
  of_name name =
      second (bytes_eq head.method (codes "PUT")) (bytes_eq head.method (codes "DELETE")) _ _ _
      (ap (λ (m : List ℕ). bytes_eq m (codes "PUT")) method) (ap (λ (m : List ℕ). bytes_eq m (codes "DELETE")) method)
      ∙ ap (λ deletion. by_master user (delete name deletion)) asks

  writes_not : (local : Local) → IsNoWrite (asked_errand local info head moment body user)
  writes_not Health = either (looks head.method) Look (Deny 405) tt tt
  writes_not GroupList = either (looks head.method) Look (Deny 405) tt tt
  writes_not (OneGroup name) = either (looks head.method) Look (Deny 405) tt tt
  writes_not ResourceList = either (looks head.method) Look (Deny 405) tt tt
  writes_not AllServices = of_list
  writes_not (OneService name) =
      subst IsNoWrite (sym (of_name name)) (either (is_master user) (Try (Delete name)) (Deny 403) tt tt)
  writes_not (ServicesNamed name) =
      either (bytes_eq info.verb (codes "watch")) (Deny 405) _ tt
      (either (looks head.method) (seen_as head moment) (Deny 400) (seen head moment) tt)
  writes_not Unserved = tt

-- ---- what is wanted goes by the method, the headers and what a Table is to include

module _ (info : Info) (moment : ℕ) (body : List ℕ) (user : User) where
  abbrev list_with : List ℕ → LocalErrand → LocalErrand
  list_with method look =
      if bytes_eq info.verb (codes "watch") then Deny 405
      else if bytes_eq method (codes "POST") then by_master user (create (row_in body)) else look

  abbrev name_with : List ℕ → List ℕ → List Header → LocalErrand → LocalErrand
  name_with name method headers look =
      if bytes_eq method (codes "PUT") then by_master user (replace name (row_in body))
      else if bytes_eq method (codes "DELETE") then by_master user (delete name (deletion_of body))
      else if bytes_eq method (codes "PATCH") then
      patch (is_patch (first_value (codes "content-type") headers)) (is_directed (first_value (codes "content-type") headers) body) name body user
      else look

  abbrev looks_with : List ℕ → LocalErrand → LocalErrand → LocalErrand
  looks_with method look other = if looks method then look else other

  module _ (head plain : Head) (method : head.method ≡ plain.method) (headers : head.headers ≡ plain.headers)
      (includes : query_value (codes "includeObject") head.target ≡ query_value (codes "includeObject") plain.target) where
    same_seen : seen_as head moment ≡ seen_as plain moment
    same_seen =
        ap (λ (hs : List Header). if asks_table (first_value (codes "accept") hs) then table_for head.target moment else Look) headers
        ∙ ap (λ (value : Option (List ℕ)). if asks_table (first_value (codes "accept") plain.headers) then table_with (include_object value) moment else Look) includes

    same_look : (other : LocalErrand) → looks_with head.method (seen_as head moment) other ≡ looks_with plain.method (seen_as plain moment) other
    same_look other =
        ap (λ (m : List ℕ). looks_with m (seen_as head moment) other) method
        ∙ ap (λ (look : LocalErrand). looks_with plain.method look other) same_seen

    alike : (local : Local) → asked_errand local info head moment body user ≡ asked_errand local info plain moment body user
    unfolding list_errand name_errand
    alike Health = ap (λ (m : List ℕ). looks_with m Look (Deny 405)) method
    alike GroupList = ap (λ (m : List ℕ). looks_with m Look (Deny 405)) method
    alike (OneGroup name) = ap (λ (m : List ℕ). looks_with m Look (Deny 405)) method
    alike ResourceList = ap (λ (m : List ℕ). looks_with m Look (Deny 405)) method
    alike AllServices =
        ap (λ (m : List ℕ). list_with m (look_services head moment)) method
        ∙ ap (λ (look : LocalErrand). list_with plain.method look) (same_look (Deny 405))
    alike (OneService name) =
        ap (λ (m : List ℕ). name_with name m head.headers (look_services head moment)) method
        ∙ ap (λ (hs : List Header). name_with name plain.method hs (look_services head moment)) headers
        ∙ ap (λ (look : LocalErrand). name_with name plain.method plain.headers look) (same_look (Deny 405))
    alike (ServicesNamed name) =
        ap (λ (look : LocalErrand). if bytes_eq info.verb (codes "watch") then Deny 405 else look) (same_look (Deny 400))
    alike Unserved = refl

-- ---- the reply, and the rows

same_reply : (rows : List Row) (local : Local) (own : LocalErrand) → local_reply rows local (tried own) ≡ local_reply rows local own
same_reply rows local (Deny code) = refl
same_reply rows local (Conflict name) = refl
same_reply rows local Look = refl
same_reply rows local (Tabulate include moment) = refl
same_reply rows local (Write change) = refl
same_reply rows local (Try change) = refl

same_rows : (rows : List Row) (own : LocalErrand) → rows_after rows (tried own) ≡ rows
same_rows rows (Deny code) = refl
same_rows rows (Conflict name) = refl
same_rows rows Look = refl
same_rows rows (Tabulate include moment) = refl
same_rows rows (Write change) = refl
same_rows rows (Try change) = refl

pub returns-clause-query : goal.returns-clause-query
returns-clause-query c = λ local info head moment body user change trial e.
    let own : LocalErrand = asked_errand local info head moment body user in
    subst IsNoWrite (sym (ap (λ (b : Bool). tried_if b own) trial) ∙ e) (tried_writes_not own)

pub returns-clause-options : goal.returns-clause-options
returns-clause-options c = λ local info head moment body user change method asks e.
    subst IsNoWrite e
    (tried_if_not (asks_trial head.target) (asked_errand local info head moment body user)
    (writes_not info head moment body user method asks local))

pub returns-clause-wants : goal.returns-clause-wants
returns-clause-wants c = λ local info head plain moment body user method headers includes asks none.
    let own : LocalErrand = asked_errand local info plain moment body user in
    ap (λ (b : Bool). tried_if b (asked_errand local info head moment body user)) asks
    ∙ ap tried (alike info moment body user head plain method headers includes local)
    ∙ sym (ap (λ (b : Bool). tried (tried_if b own)) none)

pub returns-clause-reply : goal.returns-clause-reply
returns-clause-reply c = λ rows local own. same_reply rows local own

pub returns-clause-rows : goal.returns-clause-rows
returns-clause-rows c = λ rows own. same_rows rows own
