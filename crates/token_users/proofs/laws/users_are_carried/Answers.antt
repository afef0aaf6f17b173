use Rattle.std.proofs.Common.{refl}
use Rattle.std.proofs.lemmas.List.Elements.{All-from_recursion, recursion_from_All}
use Rattle.front_base.specs.declared.user.User.{User}
use Rattle.http_head.specs.Legal.{IsLegalHeader}
use Rattle.token_users.specs.Carried.{IsCarried, IsCarriedUser}
use Rattle.token_users.specs.Who.{authenticated, user_of, who}
use Rattle.token_users.proofs.ActLemmas.{of_acting}
use Rattle.token_users.proofs.CarriedLemmas.{carried, carried_already}
use Rattle.token_users.proofs.UserLemmas.{OfUser, OfRecord, of_asker, of_file, all_weaker}
use Rattle.token_users.proofs.laws.users_are_carried.Goals as goal

is_carried_user : (user : User) → OfUser IsCarried user → IsCarriedUser user
is_carried_user user h = record { name = h.name; groups = h.groups }

pub returns : goal.returns
returns c = record {
  of_file = λ bytes records h.
      All-from_recursion (λ r. IsCarriedUser r.user) records
      (all_weaker (OfRecord IsCarried) (λ r. IsCarriedUser r.user) (λ r k. is_carried_user r.user k) records
      (of_file IsCarried carried bytes records h));
  counted = λ bytes records h head.
      is_carried_user (user_of (who records head))
      (of_asker IsCarried carried records head (of_file IsCarried carried bytes records h));
  acting = λ asker head user legal h.
      is_carried_user user
      (of_acting IsLegalHeader IsCarried (λ header own k. carried_already header own) asker head user
      (carried authenticated refl refl) (recursion_from_All IsLegalHeader head.headers legal) h);
}
