use Rattle.std.proofs.Common.{refl, codes, length, ap, ◌==◌, ◌∙◌}
use Rattle.std.proofs.lemmas.Bool.{cond-true, cond-false}
use Rattle.request_info.proofs.PathLemmas.{some_length}
use Rattle.request_info.proofs.VerbLemmas.{isnt_text}
use Rattle.request_info.proofs.laws.collections_have_verbs.Goals as goal

pub returns : goal.returns
returns c = record {
  watch = λ query asks. cond-true _ _ _ asks;
  list = λ query asks. cond-false _ _ _ asks;
  delete = λ query. refl;
  other = λ verb query get delete.
      cond-false _ _ _ (isnt_text verb (codes "get") get) ∙ cond-false _ _ _ (isnt_text verb (codes "delete") delete);
  unnamed = λ query path api verb named none. cond-true _ _ _ (ap (λ name. length name == 0) none);
  named = λ query path api verb named some. cond-false _ _ _ (some_length named.name some);
  proxied = λ query path api named. refl;
  subresource = λ query path api verb named other. cond-false _ _ _ (isnt_text verb (codes "proxy") other);
}
