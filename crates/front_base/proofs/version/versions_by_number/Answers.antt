use Rattle.front_base.proofs.FormLemmas.{stable_number, beta_major, beta_minor, alpha_major, alpha_minor, others_by_bytes}
use Rattle.front_base.proofs.version.versions_by_number.Goals as goal

pub returns-clause-stable : goal.returns-clause-stable
returns-clause-stable c = stable_number

pub returns-clause-beta_major : goal.returns-clause-beta_major
returns-clause-beta_major c = beta_major

pub returns-clause-beta_minor : goal.returns-clause-beta_minor
returns-clause-beta_minor c = beta_minor

pub returns-clause-alpha_major : goal.returns-clause-alpha_major
returns-clause-alpha_major c = alpha_major

pub returns-clause-alpha_minor : goal.returns-clause-alpha_minor
returns-clause-alpha_minor c = alpha_minor

pub returns-clause-other : goal.returns-clause-other
returns-clause-other c = others_by_bytes
