-- What a request wants, from what was learnt of it.
use Rattle.std.proofs.Common.{◌≡◌, ◌||◌, ℕ, Bool, true, false, List, Option, Ok, Err, refl, ap, ◌∙◌}
use Rattle.std.specs.List.{list_any, slice_split}
use Rattle.std.specs.Prelude.{◌==◌}
use Rattle.front_base.specs.declared.info.Info.{Info}
use Rattle.front_base.specs.declared.user.User.{User}
use Rattle.http_edge.specs.declared.request.Request.{Request}
use Rattle.policy_rules.specs.Policy.{first}
use Rattle.policy_rules.specs.declared.decision.Decision.{Decision}
use Rattle.request_info.specs.Parts.{from_first, to_last, parts_of}
use Rattle.request_info.specs.Request.{info_of, recorded, audit_info}
use Rattle.request_info.specs.declared.fault.InfoFault.{InfoFault}
use Rattle.stage_event.specs.Views.{or_own}
use Rattle.token_users.specs.Act.{act_of, user_acting}
use Rattle.token_users.specs.declared.acting.Act.{Act}
use Rattle.token_users.specs.declared.acting.Act.TheVariants.{Own, As, Unserved, Bad, Forbidden}
use Rattle.token_users.specs.Who.{user_of}
use Rattle.token_users.specs.declared.asker.Who.{Who}
use Rattle.audit_core.specs.Errand.{asker, user_in, act_in, other_of, info_in, attributes_in, is_bad, is_refused, is_unknown, is_upgrade, act_refusal, path_errand, first_errand, own_errand, local_in, errand_in}
use Rattle.audit_core.specs.Exchange.{IsAsked, decision_in}
use Rattle.audit_core.specs.Route.{Route, route_by, route_of}
use Rattle.audit_core.specs.Unread.{is_unread}
use Rattle.audit_core.specs.declared.attributes.Attributes.{Attributes}
use Rattle.audit_core.specs.declared.errand.Errand.{Errand}
use Rattle.audit_core.specs.declared.judged.Asked.{Asked}
use Rattle.audit_core.specs.declared.settings.Settings.{Settings}

pub route_is : (path : List ℕ) (parts : List (List ℕ)) (found : Option Route) → found ≡ route_by parts
    → parts ≡ to_last (from_first (slice_split (λ b. b == 47) path)) → found ≡ route_of path
unfolding parts_of
route_is path parts found f p = f ∙ ap route_by p

pub user_is : (set : Settings) (r : Request) (who : Who) (user : User) → who ≡ asker set r → user ≡ user_of who → user ≡ user_in set r
unfolding user_in
user_is set r who user e f = f ∙ ap user_of e

-- what the code takes a request's errand from
abbrev errand_from : Request → ℕ → Bool → Bool → Act → User → Info → Errand
errand_from r moment bad unknown act user info =
    first_errand bad unknown (list_any is_upgrade r.head.headers) (act_refusal act)
    (path_errand info r.head moment r.body (user_acting act user) (local_in info.path r.head.target))

pub effective_is : (act : Act) (own : User) → user_acting act own ≡ or_own (other_of act) own
effective_is Own own = refl
effective_is (As user) own = refl
effective_is Unserved own = refl
effective_is Bad own = refl
effective_is Forbidden own = refl

pub act_is : (set : Settings) (r : Request) (who : Who) (act : Act) → who ≡ asker set r → act ≡ act_of who r.head → act ≡ act_in set r
unfolding act_in
act_is set r who act w e = e ∙ ap (λ x. act_of x r.head) w

pub errand_is : (set : Settings) (r : Request) (moment : ℕ) (bad unknown : Bool) (act : Act) (user : User) (info : Info) (errand : Errand)
    → bad ≡ is_bad r → unknown ≡ is_unknown (asker set r) → act ≡ act_in set r → user ≡ user_in set r → info ≡ info_in r
    → errand ≡ errand_from r moment bad unknown act user info → errand ≡ errand_in set r moment
unfolding errand_in
errand_is set r moment bad unknown act user info errand b k a u i e =
    e
    ∙ ap (λ x. errand_from r moment x unknown act user info) b
    ∙ ap (λ x. errand_from r moment (is_bad r) x act user info) k
    ∙ ap (λ x. errand_from r moment (is_bad r) (is_unknown (asker set r)) x user info) a
    ∙ ap (λ x. errand_from r moment (is_bad r) (is_unknown (asker set r)) (act_in set r) x info) u
    ∙ ap (λ x. errand_from r moment (is_bad r) (is_unknown (asker set r)) (act_in set r) (user_in set r) x) i
    ∙ ap (λ x. first_errand (is_bad r) (is_unknown (asker set r)) (list_any is_upgrade r.head.headers) (act_refusal (act_in set r))
    (path_errand (info_in r) r.head moment r.body x (local_in (info_in r).path r.head.target))) (effective_is (act_in set r) (user_in set r))

pub attributes_are : (set : Settings) (r : Request) (info : Info) (user : User) (act : Act) (other : Option User) → info ≡ info_in r
    → user ≡ user_in set r → act ≡ act_in set r → other ≡ other_of act
    → record { info = info; user = user; acting = other } ≡ attributes_in set r
attributes_are set r info user act other i u a o =
    ap (λ x. attributes_by x user other) i ∙ ap (λ x. attributes_by (info_in r) x other) u
    ∙ ap (attributes_by (info_in r) (user_in set r)) (o ∙ ap other_of a)
  where
    attributes_by : Info → User → Option User → Attributes
    attributes_by info user acting = record { info = info; user = user; acting = acting }

pub decision_is : (set : Settings) (r : Request) (user : User) (info : Info) (decision : Decision) → user ≡ user_in set r → info ≡ info_in r
    → decision ≡ first set.policy user info → decision ≡ decision_in set r
unfolding decision_in
decision_is set r user info decision u i e =
    e ∙ ap (λ x. first set.policy x info) u ∙ ap (λ x. first set.policy (user_in set r) x) i

pub asked_info : (r : Request) (method target : List ℕ) (info : Info) (unread : Bool) → method ≡ r.head.method → target ≡ r.head.target
    → Ok info ≡ info_of method target → unread ≡ is_unread info.path target → (info ≡ info_in r) × (unread ≡ is_bad r)
unfolding info_in
asked_info r method target info unread m t e u =
    let same : Ok info ≡ info_of r.head.method r.head.target =
    e ∙ ap (λ x. info_of x target) m ∙ ap (λ x. info_of r.head.method x) t in
    let known : info ≡ info_in r = ap (recorded r.head.method r.head.target) same in (
      known,
      u ∙ ap (λ x. is_unread info.path x) t ∙ ap (λ (x : Info). is_unread x.path r.head.target) known
          ∙ ap (λ x. is_refused x || is_unread (info_in r).path r.head.target) same,
    )

pub asked_fault : (r : Request) (method target : List ℕ) (fault : InfoFault) (asked : Asked) → method ≡ r.head.method → target ≡ r.head.target
    → Err fault ≡ info_of method target → asked.info ≡ audit_info method target → asked.refused ≡ true → IsAsked r asked
unfolding info_in
asked_fault r method target fault asked m t e i f =
    let same : Err fault ≡ info_of r.head.method r.head.target =
    e ∙ ap (λ x. info_of x target) m ∙ ap (λ x. info_of r.head.method x) t in (
      i ∙ ap (λ x. audit_info x target) m ∙ ap (λ x. audit_info r.head.method x) t,
      f ∙ ap (λ x. is_refused x || is_unread (info_in r).path r.head.target) same,
    )

-- ---- what stands in the way, in order

or_true : (a b : Bool) → b ≡ true → (a || b) ≡ true
or_true true b e = refl
or_true false b e = e

module _ (set : Settings) (r : Request) (moment : ℕ) where
  abbrev pub from_here : Bool → Bool → Bool → Option ℕ → Errand
  from_here bad unknown upgrade refused = first_errand bad unknown upgrade refused (own_errand set r moment)

  pub in_order : (bad unknown upgrade : Bool) (refused : Option ℕ) → is_bad r ≡ bad → is_unknown (asker set r) ≡ unknown
      → list_any is_upgrade r.head.headers ≡ upgrade → act_refusal (act_in set r) ≡ refused
      → errand_in set r moment ≡ from_here bad unknown upgrade refused
  unfolding errand_in
  in_order bad unknown upgrade refused b k u a =
      ap (λ x. from_here x (is_unknown (asker set r)) (list_any is_upgrade r.head.headers) (act_refusal (act_in set r))) b
      ∙ ap (λ x. from_here bad x (list_any is_upgrade r.head.headers) (act_refusal (act_in set r))) k
      ∙ ap (λ x. from_here bad unknown x (act_refusal (act_in set r))) u
      ∙ ap (from_here bad unknown upgrade) a

  pub target_bad : (fault : InfoFault) → info_of r.head.method r.head.target ≡ Err fault → is_bad r ≡ true
  target_bad fault e = ap (λ x. is_refused x || is_unread (info_in r).path r.head.target) e

  pub unread_bad : is_unread (info_in r).path r.head.target ≡ true → is_bad r ≡ true
  unread_bad e = or_true (is_refused (info_of r.head.method r.head.target)) _ e
