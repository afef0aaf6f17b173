use Rattle.std.proofs.Common.{◌≡◌, ℕ, false, List, Option, Some, None, codes, refl, ap}
use Rattle.std.specs.List.{list_any}
use Rattle.front_base.specs.declared.info.Info.{Info}
use Rattle.front_base.specs.declared.user.User.{User}
use Rattle.http_edge.specs.declared.request.Request.{Request}
use Rattle.http_head.specs.Name.{first_value}
use Rattle.http_head.specs.declared.request.Head.{Head}
use Rattle.local_replies.specs.Errand.{asks_table, local_errand}
use Rattle.local_replies.specs.declared.local.Local.{Local}
use Rattle.audit_core.specs.Errand.{act_in, act_refusal, asker, effective_in, errand_in, first_errand, info_in, is_bad, is_unknown, is_upgrade, local_in, path_errand}
use Rattle.audit_core.specs.declared.errand.Errand.TheVariants as errand
use Rattle.audit_core.specs.declared.settings.Settings.{Settings}
use Rattle.audit_core.proofs.laws.errands_have_moments_in_tables.Goals as goal

-- what the law of local paths says
abbrev OnPaths : Type 0
OnPaths = (local : Local) (info : Info) (head : Head) (moment other : ℕ) (body : List ℕ) (user : User)
    → asks_table (first_value (codes "accept") head.headers) ≡ false
    → local_errand local info head moment body user ≡ local_errand local info head other body user

path_same : OnPaths → (info : Info) (head : Head) (moment other : ℕ) (body : List ℕ) (user : User) (local : Option Local)
    → asks_table (first_value (codes "accept") head.headers) ≡ false
    → path_errand info head moment body user local ≡ path_errand info head other body user local
path_same law info head moment other body user None e = refl
path_same law info head moment other body user (Some local) e = ap (errand.Serve local) (law local info head moment other body user e)

same : OnPaths → (set : Settings) (r : Request) (moment other : ℕ) → asks_table (first_value (codes "accept") r.head.headers) ≡ false
    → errand_in set r moment ≡ errand_in set r other
unfolding errand_in
same law set r moment other e =
    ap (first_errand (is_bad r) (is_unknown (asker set r)) (list_any is_upgrade r.head.headers) (act_refusal (act_in set r)))
    (path_same law (info_in r) r.head moment other r.body (effective_in set r) (local_in (info_in r).path r.head.target) e)

pub returns : goal.returns
returns c = λ set r moment other e. same c.moments_count_in_tables.ensures set r moment other e
