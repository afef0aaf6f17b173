-- A request that wants no change makes none.
use Rattle.std.proofs.Common.{◌≡◌, ℕ, Bool, true, false, List, Option, Some, None, refl}
use Rattle.std.specs.List.{list_any}
use Rattle.apiservice_rows.specs.Row.{Row}
use Rattle.apiservice_table.specs.declared.change.Change.{Change}
use Rattle.front_base.specs.declared.info.Info.{Info}
use Rattle.front_base.specs.declared.user.User.{User}
use Rattle.http_edge.specs.declared.request.Request.{Request}
use Rattle.local_replies.specs.Errand.{local_errand}
use Rattle.local_replies.specs.declared.errand.LocalErrand.{LocalErrand}
use Rattle.local_replies.specs.declared.errand.LocalErrand.TheVariants.{Deny, Conflict, Look, Tabulate, Write, Try}
use Rattle.local_replies.specs.declared.local.Local.{Local}
use Rattle.audit_core.specs.Errand.{errand_in, first_errand, path_errand, route_errand, is_bad, is_unknown, is_upgrade, asker, act_refusal, act_in, info_in, effective_in, local_in, own_errand}
use Rattle.audit_core.specs.Route.{Route, route_of}
use Rattle.audit_core.specs.Routing.{local_made, made}
use Rattle.audit_core.specs.declared.errand.Errand.{Errand}
use Rattle.audit_core.specs.declared.settings.Settings.{Settings}

local_none : (rows : List Row) (own : LocalErrand) → ((change : Change) → own ≡ Write change → ⊥) → local_made rows own ≡ None
local_none rows (Deny code) h = refl
local_none rows (Conflict name) h = refl
local_none rows Look h = refl
local_none rows (Tabulate include moment) h = refl
local_none rows (Write change) h = absurd (h change refl)
local_none rows (Try change) h = refl

route_none : (rows : List Row) (route : Option Route) → made rows (route_errand route) ≡ None
route_none rows None = refl
route_none rows (Some route) = refl

-- what stands in the way of a request makes no change either
first_none : (rows : List Row) (bad unknown upgrade : Bool) (refused : Option ℕ) (own : Errand) → made rows own ≡ None
    → made rows (first_errand bad unknown upgrade refused own) ≡ None
first_none rows true unknown upgrade refused own h = refl
first_none rows false true upgrade refused own h = refl
first_none rows false false true refused own h = refl
first_none rows false false false None own h = h
first_none rows false false false (Some code) own h = refl

module _ (set : Settings) (r : Request) (moment : ℕ) (rows : List Row) where
  path_none : (local : Option Local)
      → ((own : Local) (info : Info) (user : User) (change : Change) → local_errand own info r.head moment r.body user ≡ Write change → ⊥)
      → made rows (path_errand (info_in r) r.head moment r.body (effective_in set r) local) ≡ None
  path_none None h = route_none rows (route_of (info_in r).path)
  path_none (Some own) h =
      local_none rows (local_errand own (info_in r) r.head moment r.body (effective_in set r)) (h own (info_in r) (effective_in set r))

  pub none_made : ((own : Local) (info : Info) (user : User) (change : Change) → local_errand own info r.head moment r.body user ≡ Write change → ⊥)
      → made rows (errand_in set r moment) ≡ None
  unfolding errand_in
  none_made h =
      first_none rows (is_bad r) (is_unknown (asker set r)) (list_any is_upgrade r.head.headers) (act_refusal (act_in set r))
      (own_errand set r moment) (path_none (local_in (info_in r).path r.head.target) h)
