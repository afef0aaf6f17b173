use Rattle.std.proofs.Common.{refl}
use Rattle.std.proofs.lemmas.List.Elements.{All-from_recursion}
use Rattle.front_base.specs.declared.user.User.{User}
use Rattle.token_users.specs.Carried.{IsPlain, IsPlainUser}
use Rattle.token_users.specs.Who.{authenticated, user_of, who}
use Rattle.token_users.proofs.ActLemmas.{name_is_plain, of_acting, trivially}
use Rattle.token_users.proofs.CarriedLemmas.{plain}
use Rattle.token_users.proofs.UserLemmas.{OfUser, OfRecord, of_asker, of_file, all_weaker}
use Rattle.token_users.proofs.laws.users_are_plain.Goals as goal

is_plain_user : (user : User) → OfUser IsPlain user → IsPlainUser user
is_plain_user user h = record { name = h.name; groups = h.groups }

pub returns : goal.returns
returns c = record {
  of_file = λ bytes records h.
      All-from_recursion (λ r. IsPlainUser r.user) records
      (all_weaker (OfRecord IsPlain) (λ r. IsPlainUser r.user) (λ r k. is_plain_user r.user k) records
      (of_file IsPlain (λ text h e. plain text h) bytes records h));
  counted = λ bytes records h head.
      is_plain_user (user_of (who records head))
      (of_asker IsPlain (λ text h e. plain text h) records head (of_file IsPlain (λ text h e. plain text h) bytes records h));
  acting = λ asker head user h.
      is_plain_user user
      (of_acting (λ header. Unit {0}) IsPlain (λ header q k. plain header.value (name_is_plain header.value k)) asker head user
      (plain authenticated refl) (trivially head.headers) h);
}
