-- As whom a request is served, and whom its events show.
use Rattle.std.proofs.Common.{◌≡◌, ◌≢◌, List, [], ◌∷◌, map, Some, codes, sym, ◌∙◌}
use Rattle.std.specs.List.{AllByRecursion as All}
use Rattle.std.specs.Prelude.{Contains}
use Rattle.front_base.specs.declared.level.Level.{Level}
use Rattle.front_base.specs.declared.level.Level.TheVariants as level
use Rattle.front_base.specs.declared.stage.Stage.{Stage}
use Rattle.front_base.specs.declared.user.User.{User}
use Rattle.http_edge.specs.declared.request.Request.{Request}
use Rattle.http_head.specs.declared.request.Head.{Head}
use Rattle.policy_rules.specs.declared.omit.Omit.{Omit}
use Rattle.stage_event.specs.Events.{event}
use Rattle.stage_event.specs.declared.event.Event.{Event}
use Rattle.stage_event.specs.declared.facts.Facts.{Facts}
use Rattle.token_users.specs.Act.{acting, act_of}
use Rattle.token_users.specs.Who.{user_of}
use Rattle.token_users.specs.declared.acting.Act.{Act}
use Rattle.token_users.specs.declared.acting.Act.TheVariants.{Own, As, Unserved, Bad, Forbidden}
use Rattle.token_users.specs.declared.asker.Who.{Who}
use Rattle.audit_core.specs.Errand.{asker, user_in, act_in, other_of, acting_in, effective_in}
use Rattle.audit_core.specs.Owed.{owed_at, stages_due}
use Rattle.audit_core.specs.declared.settings.Settings.{Settings}
use Rattle.audit_core.proofs.JudgedLemmas.{effective_is}

pub effective_acts : (set : Settings) (r : Request) → effective_in set r ≡ acting (asker set r) r.head
unfolding act_in user_in
effective_acts set r = sym (effective_is (act_of (asker set r) r.head) (user_of (asker set r)))

as_other : (act : Act) (user : User) → other_of act ≡ Some user → act ≡ As user
as_other (As own) user e = cc
as_other Own user e = absurd (cc e)
as_other Unserved user e = absurd (cc e)
as_other Bad user e = absurd (cc e)
as_other Forbidden user e = absurd (cc e)

-- the law that is called
abbrev pub MastersAct : Type 0
MastersAct = (asker : Who) (head : Head) (user : User) → act_of asker head ≡ As user → Contains (user_of asker).groups (codes "system:masters")

pub masters_act : MastersAct → (set : Settings) (r : Request) (user : User) → acting_in set r ≡ Some user
    → Contains (user_in set r).groups (codes "system:masters")
unfolding act_in user_in
masters_act law set r user e = law (asker set r) r.head user (as_other (act_of (asker set r) r.head) user e)

abbrev pub Shows : Settings → Request → Event → Type 0
Shows set r e = (e.user ≡ user_in set r) × (e.impersonated ≡ acting_in set r)

module _ (users : (stage : Stage) (own : Level) (facts : Facts) → own ≢ level.None → (event stage own facts).user ≡ facts.user)
    (others : (stage : Stage) (own : Level) (facts : Facts) → own ≢ level.None → (event stage own facts).impersonated ≡ facts.acting)
    (set : Settings) (r : Request) (facts : Facts) (user : facts.user ≡ user_in set r) (other : facts.acting ≡ acting_in set r) where
  each_shows : (own : Level) → own ≢ level.None → (stages : List Stage) → All (Shows set r) (map (λ stage. event stage own facts) stages)
  each_shows own above [] = tt
  each_shows own above (stage ∷ stages) =
      ((users stage own facts above ∙ user, others stage own facts above ∙ other), each_shows own above stages)

  pub owed_show : (own : Level) (omit : Omit) → All (Shows set r) (owed_at own omit facts)
  owed_show level.None omit = tt
  owed_show level.Metadata omit = each_shows level.Metadata (λ e. absurd cc) (stages_due omit facts.info)
  owed_show level.Request omit = each_shows level.Request (λ e. absurd cc) (stages_due omit facts.info)
  owed_show level.RequestResponse omit = each_shows level.RequestResponse (λ e. absurd cc) (stages_due omit facts.info)
