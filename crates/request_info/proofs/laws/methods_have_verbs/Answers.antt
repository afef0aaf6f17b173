use Rattle.std.proofs.Common.{refl, codes, ◌∙◌}
use Rattle.std.proofs.lemmas.Bool.{cond-false}
use Rattle.request_info.proofs.VerbLemmas.{isnt_text}
use Rattle.request_info.proofs.laws.methods_have_verbs.Goals as goal

pub returns : goal.returns
returns c = record {
  create = refl;
  update = refl;
  patch = refl;
  delete = refl;
  get = (refl, refl);
  other = λ method post put patch delete get head.
      cond-false _ _ _ (isnt_text method (codes "POST") post)
      ∙ cond-false _ _ _ (isnt_text method (codes "PUT") put)
      ∙ cond-false _ _ _ (isnt_text method (codes "PATCH") patch)
      ∙ cond-false _ _ _ (isnt_text method (codes "DELETE") delete)
      ∙ cond-false _ _ _ (isnt_text method (codes "GET") get)
      ∙ cond-false _ _ _ (isnt_text method (codes "HEAD") head);
}
