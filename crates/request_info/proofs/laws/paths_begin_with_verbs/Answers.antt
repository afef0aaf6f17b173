use Rattle.std.proofs.Common.{refl, length, ap, ◌==◌}
use Rattle.std.proofs.lemmas.Bool.{cond-true, cond-false}
use Rattle.request_info.proofs.VerbLemmas.{special_is, special_isnt}
use Rattle.request_info.proofs.laws.paths_begin_with_verbs.Goals as goal

pub returns : goal.returns
returns c = record {
  verb = λ method verb parts is. (cond-true _ _ _ (special_is verb is), cond-true _ _ _ (special_is verb is));
  other = λ method first parts isnt. (cond-false _ _ _ (special_isnt first isnt), cond-false _ _ _ (special_isnt first isnt));
  alone = λ method query path api none. cond-true _ _ _ (ap (λ parts. length parts == 0) none);
}
