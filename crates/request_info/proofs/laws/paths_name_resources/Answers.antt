use Rattle.std.proofs.Common.{inl, inr}
use Rattle.request_info.proofs.FormLemmas.{named_forms, forms_named}
use Rattle.request_info.proofs.laws.paths_name_resources.Goals as goal

pub returns : goal.returns
returns c = record {
  cluster = λ parts named h. forms_named parts named (inl h);
  namespaced = λ parts named h. forms_named parts named (inr (inl h));
  namespace = λ parts named h. forms_named parts named (inr (inr h));
  only = named_forms;
}
