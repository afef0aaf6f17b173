use Rattle.front_base.proofs.FormLemmas.{stable_beta, beta_alpha, other_last}
use Rattle.front_base.proofs.version.versions_by_form.Goals as goal

pub returns-clause-beta : goal.returns-clause-beta
returns-clause-beta c = stable_beta

pub returns-clause-alpha : goal.returns-clause-alpha
returns-clause-alpha c = beta_alpha

pub returns-clause-other : goal.returns-clause-other
returns-clause-other c = other_last
