use Rattle.std.proofs.Common.{◌++◌, inr, refl}
use Rattle.std.specs.Prelude.{codes}
use Rattle.policy_rules.proofs.AboutLemmas.{url_tells}
use Rattle.policy_rules.proofs.laws.prefixes_name_paths.Goals as goal

pub returns : goal.returns
returns c = λ start rest. (url_tells (start ++ rest) (start ++ codes "*")).1 (inr (start, rest, refl, refl))
