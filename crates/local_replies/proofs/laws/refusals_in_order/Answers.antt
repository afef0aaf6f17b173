use Rattle.std.proofs.Common.{◌≡◌, ℕ, ◌==◌, Bool, true, false, List, Option, Some, None, refl, sym, ap, ◌∙◌}
use Rattle.std.proofs.lemmas.Bool.{false≢true}
use Rattle.std.proofs.lemmas.Bool.Decides.{Decides-eqb}
use Rattle.std.specs.Prelude.{if◌then◌else◌, codes}
use Rattle.std.specs.Str.{bytes_eq}
use Rattle.apiservice_rows.specs.Row.{Row}
use Rattle.apiservice_table.specs.declared.change.Change.TheVariants.{Replace}
use Rattle.front_base.specs.declared.info.Info.{Info}
use Rattle.front_base.specs.declared.user.User.{User}
use Rattle.http_head.specs.Name.{first_value}
use Rattle.http_head.specs.declared.request.Head.{Head}
use Rattle.local_replies.specs.Errand.{asked_errand, asks_table, create, delete, is_directed, is_master, is_patch, list_errand, listed_errand, look_only, look_services, looks, name_errand, patch, replace, row_in, seen_as, served_patch, table_for, table_with, tried, tried_if}
use Rattle.local_replies.specs.declared.errand.LocalErrand.{LocalErrand}
use Rattle.local_replies.specs.declared.errand.LocalErrand.TheVariants.{Deny, Conflict, Look, Tabulate, Write, Try}
use Rattle.local_replies.specs.declared.local.Local.{Local}
use Rattle.local_replies.specs.declared.local.Local.TheVariants.{Health, GroupList, OneGroup, ResourceList, AllServices, OneService, ServicesNamed, Unserved}
use Rattle.request_info.specs.Query.{query_value}
use Rattle.request_info.specs.Selection.{asks_trial}
use Rattle.service_tables.specs.Include.{include_object}
use Rattle.service_tables.specs.declared.include.IncludeObject.{IncludeObject}
use Rattle.write_bodies.specs.Deletion.{deletion_of}
use Rattle.write_bodies.specs.declared.deletion.Deletion.{Deletion}
use Rattle.write_bodies.specs.declared.deletion.Deletion.TheVariants.{Plain, Trial, Conditional}
use Rattle.local_replies.proofs.laws.refusals_in_order.Goals as goal

-- an errand isn't refused with that code
abbrev Passes : ℕ → LocalErrand → Type 0
Passes code errand = errand ≡ Deny code → ⊥

abbrev code_of : LocalErrand → ℕ
code_of (Deny code) = code
code_of (Conflict name) = 0
code_of Look = 0
code_of (Tabulate include moment) = 0
code_of (Write change) = 0
code_of (Try change) = 0

-- refusals with two codes
apart : (a b : ℕ) → (a == b) ≡ false → Deny a ≡ Deny b → ⊥
apart a b differ e =
    let same : a ≡ b = ap code_of e in absurd (false≢true (sym differ ∙ (Decides-eqb a b).1 same))

look_403 : (method : List ℕ) → Passes 403 (look_only method)
look_403 method = either (looks method)
  where
    either : (b : Bool) → Passes 403 (if b then Look else Deny 405)
    either true e = cc e
    either false e = apart _ _ refl e

look_422 : (method : List ℕ) → Passes 422 (look_only method)
look_422 method = either (looks method)
  where
    either : (b : Bool) → Passes 422 (if b then Look else Deny 405)
    either true e = cc e
    either false e = apart _ _ refl e

table_passes : (code : ℕ) (include : Option IncludeObject) (moment : ℕ) → (400 == code) ≡ false → Passes code (table_with include moment)
table_passes code None moment differ e = apart _ _ differ e
table_passes code (Some include) moment differ e = cc e

-- a look at APIServices, in whatever form
seen_passes : (code : ℕ) (head : Head) (moment : ℕ) → (400 == code) ≡ false → Passes code (seen_as head moment)
seen_passes code head moment differ = either (asks_table (first_value (codes "accept") head.headers))
  where
    either : (b : Bool) → Passes code (if b then table_for head.target moment else Look)
    either true e = table_passes code (include_object (query_value (codes "includeObject") head.target)) moment differ e
    either false e = cc e

services_403 : (head : Head) (moment : ℕ) → Passes 403 (look_services head moment)
services_403 head moment = either (looks head.method)
  where
    either : (b : Bool) → Passes 403 (if b then seen_as head moment else Deny 405)
    either true e = seen_passes 403 head moment refl e
    either false e = apart _ _ refl e

services_422 : (head : Head) (moment : ℕ) → Passes 422 (look_services head moment)
services_422 head moment = either (looks head.method)
  where
    either : (b : Bool) → Passes 422 (if b then seen_as head moment else Deny 405)
    either true e = seen_passes 422 head moment refl e
    either false e = apart _ _ refl e

listed_403 : (info : Info) (head : Head) (moment : ℕ) → Passes 403 (listed_errand info head moment)
listed_403 info head moment = either (bytes_eq info.verb (codes "watch")) (looks head.method)
  where
    either : (w b : Bool) → Passes 403 (if w then Deny 405 else if b then seen_as head moment else Deny 400)
    either true b e = apart _ _ refl e
    either false true e = seen_passes 403 head moment refl e
    either false false e = apart _ _ refl e

listed_422 : (info : Info) (head : Head) (moment : ℕ) → Passes 422 (listed_errand info head moment)
listed_422 info head moment = either (bytes_eq info.verb (codes "watch")) (looks head.method)
  where
    either : (w b : Bool) → Passes 422 (if w then Deny 405 else if b then seen_as head moment else Deny 400)
    either true b e = apart _ _ refl e
    either false true e = seen_passes 422 head moment refl e
    either false false e = apart _ _ refl e

create_403 : (row : Option Row) → Passes 403 (create row)
create_403 None e = apart _ _ refl e
create_403 (Some row) e = cc e

create_405 : (row : Option Row) → Passes 405 (create row)
create_405 None e = apart _ _ refl e
create_405 (Some row) e = cc e

replace_403 : (name : List ℕ) (row : Option Row) → Passes 403 (replace name row)
replace_403 name None e = apart _ _ refl e
replace_403 name (Some row) e = either (bytes_eq row.name name) e
  where
    either : (b : Bool) → Passes 403 (if b then Write (Replace row) else Deny 422)
    either true e = cc e
    either false e = apart _ _ refl e

replace_405 : (name : List ℕ) (row : Option Row) → Passes 405 (replace name row)
replace_405 name None e = apart _ _ refl e
replace_405 name (Some row) e = either (bytes_eq row.name name) e
  where
    either : (b : Bool) → Passes 405 (if b then Write (Replace row) else Deny 422)
    either true e = cc e
    either false e = apart _ _ refl e

delete_403 : (name : List ℕ) (deletion : Option Deletion) → Passes 403 (delete name deletion)
delete_403 name None e = apart _ _ refl e
delete_403 name (Some Plain) e = cc e
delete_403 name (Some Trial) e = cc e
delete_403 name (Some Conditional) e = cc e

delete_405 : (name : List ℕ) (deletion : Option Deletion) → Passes 405 (delete name deletion)
delete_405 name None e = apart _ _ refl e
delete_405 name (Some Plain) e = cc e
delete_405 name (Some Trial) e = cc e
delete_405 name (Some Conditional) e = cc e

served_403 : (directed : Bool) (name body : List ℕ) → Passes 403 (served_patch directed name body)
served_403 true name body e = apart _ _ refl e
served_403 false name body e = cc e

served_405 : (directed : Bool) (name body : List ℕ) → Passes 405 (served_patch directed name body)
served_405 true name body e = apart _ _ refl e
served_405 false name body e = cc e

-- what a master may do, or else the refusal
abbrev may : Bool → LocalErrand → LocalErrand
may master x = if master then x else Deny 403

may_405 : (master : Bool) (x : LocalErrand) → Passes 405 x → Passes 405 (may master x)
may_405 true x h e = h e
may_405 false x h e = apart _ _ refl e

may_403 : (master : Bool) (x y : LocalErrand) → Passes 403 x → may master x ≡ Deny 403 → (may master y ≡ Deny 403) × (master ≡ false)
may_403 true x y h e = absurd (h e)
may_403 false x y h e = (refl, refl)

may_422 : (master : Bool) (x : LocalErrand) → may master x ≡ Deny 422 → master ≡ true
may_422 true x e = refl
may_422 false x e = absurd (apart _ _ refl e)

-- on all APIServices
module _ (watch post : Bool) (z : LocalErrand) where
  abbrev listed : LocalErrand → LocalErrand
  listed x = if watch then Deny 405 else (if post then x else z)

list_405 : (watch post : Bool) (x y z : LocalErrand) → Passes 405 x → listed watch post z x ≡ Deny 405 → listed watch post z y ≡ Deny 405
list_405 true post x y z h e = refl
list_405 false true x y z h e = absurd (h e)
list_405 false false x y z h e = e

-- a patch of an APIService
patch_405 : (is directed : Bool) (name body : List ℕ) (user : User) → Passes 405 (patch is directed name body user)
patch_405 true directed name body user e =
    may_405 (is_master user) (served_patch directed name body) (served_405 directed name body) e
patch_405 false directed name body user e = apart _ _ refl e

patch_403 : (is directed others : Bool) (name body other : List ℕ) (user : User) → patch is directed name body user ≡ Deny 403
    → (patch is others name other user ≡ Deny 403) × (is_master user ≡ false)
patch_403 true directed others name body other user e =
    may_403 (is_master user) (served_patch directed name body) (served_patch others name other) (served_403 directed name body) e
patch_403 false directed others name body other user e = absurd (apart _ _ refl e)

patch_422 : (is directed : Bool) (name body : List ℕ) (user : User) → patch is directed name body user ≡ Deny 422
    → is_master user ≡ true
patch_422 true directed name body user e = may_422 (is_master user) (served_patch directed name body) e
patch_422 false directed name body user e = absurd (apart _ _ refl e)

-- on one APIService
module _ (put delete patches : Bool) (z : LocalErrand) where
  abbrev named : LocalErrand → LocalErrand → LocalErrand → LocalErrand
  named x y w = if put then x else (if delete then y else (if patches then w else z))

name_405 : (put delete patches : Bool) (x y w a b v z : LocalErrand) → Passes 405 x → Passes 405 y → Passes 405 w
    → named put delete patches z x y w ≡ Deny 405 → named put delete patches z a b v ≡ Deny 405
name_405 true delete patches x y w a b v z h k m e = absurd (h e)
name_405 false true patches x y w a b v z h k m e = absurd (k e)
name_405 false false true x y w a b v z h k m e = absurd (m e)
name_405 false false false x y w a b v z h k m e = e

name_403 : (put delete patches : Bool) (x y w a b v z : LocalErrand) (master : Bool) → Passes 403 z
    → (x ≡ Deny 403 → (a ≡ Deny 403) × (master ≡ false)) → (y ≡ Deny 403 → (b ≡ Deny 403) × (master ≡ false))
    → (w ≡ Deny 403 → (v ≡ Deny 403) × (master ≡ false))
    → named put delete patches z x y w ≡ Deny 403 → (named put delete patches z a b v ≡ Deny 403) × (master ≡ false)
name_403 true delete patches x y w a b v z master n h k m e = h e
name_403 false true patches x y w a b v z master n h k m e = k e
name_403 false false true x y w a b v z master n h k m e = m e
name_403 false false false x y w a b v z master n h k m e = absurd (n e)

name_422 : (put delete patches : Bool) (x y w z : LocalErrand) (master : Bool) → Passes 422 z
    → (x ≡ Deny 422 → master ≡ true) → (y ≡ Deny 422 → master ≡ true) → (w ≡ Deny 422 → master ≡ true)
    → named put delete patches z x y w ≡ Deny 422 → master ≡ true
name_422 true delete patches x y w z master n h k m e = h e
name_422 false true patches x y w z master n h k m e = k e
name_422 false false true x y w z master n h k m e = m e
name_422 false false false x y w z master n h k m e = absurd (n e)

-- a patch of a type that isn't served
name_415 : (put delete patches is : Bool) (x y w z : LocalErrand) → put ≡ false → delete ≡ false → patches ≡ true → is ≡ false
    → named put delete patches z x y (if is then w else Deny 415) ≡ Deny 415
name_415 true delete patches is x y w z p d m i = absurd (cc p)
name_415 false true patches is x y w z p d m i = absurd (cc d)
name_415 false false false is x y w z p d m i = absurd (cc m)
name_415 false false true true x y w z p d m i = absurd (cc i)
name_415 false false true false x y w z p d m i = refl

list_403 : (watch post : Bool) (x y z : LocalErrand) (master : Bool) → Passes 403 z
    → (x ≡ Deny 403 → (y ≡ Deny 403) × (master ≡ false)) → listed watch post z x ≡ Deny 403
    → (listed watch post z y ≡ Deny 403) × (master ≡ false)
list_403 true post x y z master n h e = absurd (apart _ _ refl e)
list_403 false true x y z master n h e = h e
list_403 false false x y z master n h e = absurd (n e)

list_422 : (watch post : Bool) (x z : LocalErrand) (master : Bool) → Passes 422 z → (x ≡ Deny 422 → master ≡ true)
    → listed watch post z x ≡ Deny 422 → master ≡ true
list_422 true post x z master n h e = absurd (apart _ _ refl e)
list_422 false true x z master n h e = h e
list_422 false false x z master n h e = absurd (n e)

module _ (info : Info) (head : Head) (moment : ℕ) (body other : List ℕ) where
  abbrev watches : Bool
  watches = bytes_eq info.verb (codes "watch")

  abbrev posts : Bool
  posts = bytes_eq head.method (codes "POST")

  abbrev puts : Bool
  puts = bytes_eq head.method (codes "PUT")

  abbrev deletes : Bool
  deletes = bytes_eq head.method (codes "DELETE")

  abbrev patches : Bool
  patches = bytes_eq head.method (codes "PATCH")

  abbrev merges : Bool
  merges = is_patch (first_value (codes "content-type") head.headers)

  abbrev directs : List ℕ → Bool
  directs text = is_directed (first_value (codes "content-type") head.headers) text

  by_method : (local : Local) (user someone : User) → asked_errand local info head moment body user ≡ Deny 405
      → asked_errand local info head moment other someone ≡ Deny 405
  unfolding list_errand name_errand
  by_method Health user someone e = e
  by_method GroupList user someone e = e
  by_method (OneGroup name) user someone e = e
  by_method ResourceList user someone e = e
  by_method AllServices user someone e =
      list_405 watches posts _ _ (look_services head moment)
      (may_405 (is_master user) (create (row_in body)) (create_405 (row_in body))) e
  by_method (OneService name) user someone e =
      name_405 puts deletes patches _ _ _ _ _ _ (look_services head moment)
      (may_405 (is_master user) (replace name (row_in body)) (replace_405 name (row_in body)))
      (may_405 (is_master user) (delete name (deletion_of body)) (delete_405 name (deletion_of body)))
      (patch_405 merges (directs body) name body user) e
  by_method (ServicesNamed name) user someone e = e
  by_method Unserved user someone e = absurd (apart _ _ refl e)

  by_type : (name : List ℕ) (user : User) → head.method ≡ codes "PATCH" → merges ≡ false
      → asked_errand (OneService name) info head moment body user ≡ Deny 415
  unfolding name_errand
  by_type name user method none =
      name_415 puts deletes patches merges _ _ _ (look_services head moment)
      (ap (λ (m : List ℕ). bytes_eq m (codes "PUT")) method)
      (ap (λ (m : List ℕ). bytes_eq m (codes "DELETE")) method)
      (ap (λ (m : List ℕ). bytes_eq m (codes "PATCH")) method) none

  by_user : (local : Local) (user : User) → asked_errand local info head moment body user ≡ Deny 403
      → (asked_errand local info head moment other user ≡ Deny 403) × (is_master user ≡ false)
  unfolding list_errand name_errand
  by_user Health user e = absurd (look_403 head.method e)
  by_user GroupList user e = absurd (look_403 head.method e)
  by_user (OneGroup name) user e = absurd (look_403 head.method e)
  by_user ResourceList user e = absurd (look_403 head.method e)
  by_user AllServices user e =
      list_403 watches posts _ _ (look_services head moment) (is_master user) (services_403 head moment)
      (may_403 (is_master user) (create (row_in body)) (create (row_in other)) (create_403 (row_in body))) e
  by_user (OneService name) user e =
      name_403 puts deletes patches _ _ _ _ _ _ (look_services head moment) (is_master user) (services_403 head moment)
      (may_403 (is_master user) (replace name (row_in body)) (replace name (row_in other)) (replace_403 name (row_in body)))
      (may_403 (is_master user) (delete name (deletion_of body)) (delete name (deletion_of other)) (delete_403 name (deletion_of body)))
      (patch_403 merges (directs body) (directs other) name body other user) e
  by_user (ServicesNamed name) user e = absurd (listed_403 info head moment e)
  by_user Unserved user e = absurd (apart _ _ refl e)

  by_body : (local : Local) (user : User) → asked_errand local info head moment body user ≡ Deny 422 → is_master user ≡ true
  unfolding list_errand name_errand
  by_body Health user e = absurd (look_422 head.method e)
  by_body GroupList user e = absurd (look_422 head.method e)
  by_body (OneGroup name) user e = absurd (look_422 head.method e)
  by_body ResourceList user e = absurd (look_422 head.method e)
  by_body AllServices user e =
      list_422 watches posts _ (look_services head moment) (is_master user) (services_422 head moment)
      (may_422 (is_master user) (create (row_in body))) e
  by_body (OneService name) user e =
      name_422 puts deletes patches _ _ _ (look_services head moment) (is_master user) (services_422 head moment)
      (may_422 (is_master user) (replace name (row_in body))) (may_422 (is_master user) (delete name (deletion_of body)))
      (patch_422 merges (directs body) name body user) e
  by_body (ServicesNamed name) user e = absurd (listed_422 info head moment e)
  by_body Unserved user e = absurd (apart _ _ refl e)

-- ---- the query asks for a dry run, or it doesn't

back : (trial : Bool) (own : LocalErrand) (code : ℕ) → tried_if trial own ≡ Deny code → own ≡ Deny code
back false own code e = e
back true (Deny other) code e = e
back true (Conflict name) code e = absurd (cc e)
back true Look code e = absurd (cc e)
back true (Tabulate include moment) code e = absurd (cc e)
back true (Write change) code e = absurd (cc e)
back true (Try change) code e = absurd (cc e)

on : (trial : Bool) (own : LocalErrand) (code : ℕ) → own ≡ Deny code → tried_if trial own ≡ Deny code
on false own code e = e
on true own code e = ap tried e

pub returns-clause-by_path : goal.returns-clause-by_path
returns-clause-by_path c = λ info head moment body user. on (asks_trial head.target) (Deny 404) 404 refl

pub returns-clause-by_method : goal.returns-clause-by_method
returns-clause-by_method c = λ local info head moment body other user someone e.
    on (asks_trial head.target) _ 405 (by_method info head moment body other local user someone (back (asks_trial head.target) _ 405 e))

pub returns-clause-by_type : goal.returns-clause-by_type
returns-clause-by_type c = λ name info head moment body user method none.
    on (asks_trial head.target) _ 415 (by_type info head moment body body name user method none)

pub returns-clause-by_user : goal.returns-clause-by_user
returns-clause-by_user c = λ local info head moment body other user e.
    let own = by_user info head moment body other local user (back (asks_trial head.target) _ 403 e) in
    (on (asks_trial head.target) _ 403 own.0, own.1)

pub returns-clause-by_selector : goal.returns-clause-by_selector
returns-clause-by_selector c = λ name info head moment body other user someone. refl

pub returns-clause-by_body : goal.returns-clause-by_body
returns-clause-by_body c = λ local info head moment body user e.
    by_body info head moment body body local user (back (asks_trial head.target) _ 422 e)
