use Rattle.std.proofs.Common.{◌≡◌, ℕ, Bool, false, List, refl, sym, ap, ◌∙◌}
use Rattle.std.specs.Prelude.{if◌then◌else◌, codes}
use Rattle.std.specs.Str.{bytes_eq}
use Rattle.front_base.specs.declared.info.Info.{Info}
use Rattle.front_base.specs.declared.user.User.{User}
use Rattle.http_head.specs.Name.{first_value}
use Rattle.http_head.specs.declared.request.Head.{Head}
use Rattle.local_replies.specs.Errand.{asks_table, asked_errand, by_master, create, delete, is_directed, is_patch, list_errand, looks, name_errand, patch, replace, row_in, seen_as, table_for, tried_if}
use Rattle.local_replies.specs.declared.errand.LocalErrand.{LocalErrand}
use Rattle.local_replies.specs.declared.errand.LocalErrand.TheVariants.{Deny, Look}
use Rattle.local_replies.specs.declared.local.Local.{Local}
use Rattle.local_replies.specs.declared.local.Local.TheVariants.{Health, GroupList, OneGroup, ResourceList, AllServices, OneService, ServicesNamed, Unserved}
use Rattle.request_info.specs.Selection.{asks_trial}
use Rattle.write_bodies.specs.Deletion.{deletion_of}
use Rattle.local_replies.proofs.laws.moments_count_in_tables.Goals as goal

module _ (info : Info) (head : Head) (moment other : ℕ) (body : List ℕ) (user : User)
    (none : asks_table (first_value (codes "accept") head.headers) ≡ false) where
  same : seen_as head moment ≡ seen_as head other
  same =
      ap (λ (b : Bool). if b then table_for head.target moment else Look) none
      ∙ sym (ap (λ (b : Bool). if b then table_for head.target other else Look) none)

  -- what a look is answered by, where it is one
  looked_so : (refused : LocalErrand) → (if looks head.method then seen_as head moment else refused)
      ≡ (if looks head.method then seen_as head other else refused)
  looked_so refused = ap (λ (own : LocalErrand). if looks head.method then own else refused) same

  each : (local : Local) → asked_errand local info head moment body user ≡ asked_errand local info head other body user
  unfolding list_errand name_errand
  each Health = refl
  each GroupList = refl
  each (OneGroup name) = refl
  each ResourceList = refl
  each AllServices =
      ap (λ (own : LocalErrand). if bytes_eq info.verb (codes "watch") then Deny 405
      else if bytes_eq head.method (codes "POST") then by_master user (create (row_in body)) else own) (looked_so (Deny 405))
  each (OneService name) =
      ap (λ (own : LocalErrand). if bytes_eq head.method (codes "PUT") then by_master user (replace name (row_in body))
      else if bytes_eq head.method (codes "DELETE") then by_master user (delete name (deletion_of body))
      else if bytes_eq head.method (codes "PATCH") then patch (is_patch (first_value (codes "content-type") head.headers)) (is_directed (first_value (codes "content-type") head.headers) body) name body user
      else own) (looked_so (Deny 405))
  each (ServicesNamed name) =
      ap (λ (own : LocalErrand). if bytes_eq info.verb (codes "watch") then Deny 405 else own) (looked_so (Deny 400))
  each Unserved = refl

pub returns : goal.returns
returns c = λ local info head moment other body user none.
    ap (tried_if (asks_trial head.target)) (each info head moment other body user none local)
